-- What is needed, along links.
use Rattle.std.proofs.Common.{inl, inr, ◌<◌, ◌≤◌, arith, ◌∙◌}
use Rattle.std.specs.Prelude.{◌↔◌}
use Rattle.inc_value.specs.declared.node.Point.{Point}
use Rattle.inc_value.specs.Choice.{Reaches, here, step}
use Rattle.link_table.specs.Links.{Links, times, Reads}
use Rattle.necessity.specs.Need.{root_times}
use Rattle.necessary_graph.specs.Part.{NecessaryPart, Needed}
use Rattle.necessary_graph.specs.Sweep.{IsThinned, IsHeld}

-- one step more at the end
pub reaches_more : {A : Type 0} {R : A → A → Type 0} {a b c : A} → Reaches R a b → R b c → Reaches R a c
reaches_more here r = step r here
reaches_more (step first rest) r = step first (reaches_more rest r)

-- one walk after another
pub reaches_on : {A : Type 0} {R : A → A → Type 0} {a b c : A} → Reaches R a b → Reaches R b c → Reaches R a c
reaches_on here r = r
reaches_on (step first rest) r = step first (reaches_on rest r)

-- what is led to over fewer links is led to over more
pub leads_more : (fewer more : Links) → ((a b : Point) → times fewer a b ≤ times more a b) → {a b : Point} → Reaches (Reads fewer) a b
    → Reaches (Reads more) a b
leads_more fewer more less here = here
leads_more fewer more less (step {a} {b} r rest) = step (omega (arith, less a b, r)) (leads_more fewer more less rest)

-- what goes along each step goes along a walk
pub walk_has : {A : Type 0} {R : A → A → Type 0} (P : A → Type 0) → ((a b : A) → R a b → P a → P b) → {a b : A} → Reaches R a b → P a → P b
walk_has P along here h = h
walk_has P along (step {a} {b} r rest) h = walk_has P along rest (along a b r h)

-- a root is needed
pub root_needed : (g : NecessaryPart) (p : Point) → 0 < root_times g.roots p → Needed g p
root_needed g p h = record { root = p; is_root = h; leads = here }

-- what a needed point reads is needed
pub read_needed : (g : NecessaryPart) (a b : Point) → Needed g a → Reads g.links a b → Needed g b
read_needed g a b n r = record { root = n.root; is_root = n.is_root; leads = reaches_more n.leads r }

-- what a needed point leads to is needed
pub led_needed : (g : NecessaryPart) (a b : Point) → Needed g a → Reaches (Reads g.links) a b → Needed g b
led_needed g a b n leads = record { root = n.root; is_root = n.is_root; leads = reaches_on n.leads leads }

-- what roots have and what goes along links is had by all that is needed
pub needed_has : (g : NecessaryPart) (P : Point → Type 0) → ((a : Point) → 0 < root_times g.roots a → P a) → ((a b : Point) → Reads g.links a b → P a → P b)
    → (p : Point) → Needed g p → P p
needed_has g P roots along p n = walk_has P along n.leads (roots n.root n.is_root)

-- what is needed is a root, or is read
pub needed_held : (g : NecessaryPart) (p : Point) → Needed g p → IsHeld g.links g.roots p
needed_held g p n = needed_has g (IsHeld g.links g.roots) (λ a r. inl r) (λ a b r held. inr (a, r)) p n

-- more is needed of more roots and links
pub needed_more : (g h : NecessaryPart) → ((a : Point) → 0 < root_times g.roots a → 0 < root_times h.roots a)
    → ((a b : Point) → Reads g.links a b → Reads h.links a b) → (p : Point) → Needed g p → Needed h p
needed_more g h roots links p n =
    needed_has g (Needed h) (λ a r. root_needed h a (roots a r)) (λ a b r m. read_needed h a b m (links a b r)) p n

-- the links of needed points alone tell who is needed
pub thinned_down : (old new : NecessaryPart) → IsThinned old new → (p : Point) → Needed new p → Needed old p
thinned_down old new t p n = needed_more new old (λ a r. omega (arith, t.roots a, r)) (λ a b r. omega (arith, t.fewer a b, r)) p n

pub thinned_up : (old new : NecessaryPart) → IsThinned old new → (p : Point) → Needed old p → Needed new p
thinned_up old new t p n =
    let both = needed_has old (λ x. Needed old x × Needed new x) (λ a r. (root_needed old a r, root_needed new a (omega (arith, t.roots a, r))))
    (λ a b r m. (read_needed old a b m.0 r, read_needed new a b m.1 (omega (arith, t.kept a b m.0, r)))) p n in both.1

pub thinned_need : (old new : NecessaryPart) → IsThinned old new → (p : Point) → Needed new p ↔ Needed old p
thinned_need old new t p = (thinned_down old new t p, thinned_up old new t p)

pub thinned_then : (s t u : NecessaryPart) → IsThinned s t → IsThinned t u → IsThinned s u
thinned_then s t u f g = record {
  roots = λ a. g.roots a ∙ f.roots a;
  fewer = λ a b. omega (arith, f.fewer a b, g.fewer a b);
  kept = λ a b n. g.kept a b (thinned_up s t f a n) ∙ f.kept a b n;
}
