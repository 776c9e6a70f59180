-- What an arena keeps is what the laws of graphs ask.
use Rattle.std.proofs.Common.{arith, ◌≡◌, ◌≢◌, ◌≤◌, ◌⊎◌, inl, inr, refl, sym, subst, ap, ◌∙◌, ℕ, Bool, List, Option, Some, IfSome}
use Rattle.inc_value.specs.declared.function.FnKind.{FnKind}
use Rattle.inc_value.specs.declared.function.FnRef.{FnRef}
use Rattle.inc_value.specs.declared.node.NodeId.{NodeId}
use Rattle.inc_value.specs.declared.value.Value.{Value}
use Rattle.inc_value.specs.declared.value.Value.TheVariants as value
use Rattle.inc_value.specs.Ty.{IsBase}
use Rattle.inc_value.specs.Value.{type_of}
use Rattle.inc_terms.specs.Graph as graph
use Rattle.inc_terms.specs.Graph.{Row, Def}
use Rattle.inc_terms.specs.Rebuild.{Keeping}
use Rattle.inc_terms.specs.Within.{DefWithin, ValueWithin, Given, Fit}
use Rattle.inc_terms.proofs.Meanings.{keeping_names}
use Rattle.node_arena.specs.Arena.{Arena, row_at}
use Rattle.node_arena.specs.Graph.{Holdings, HoldsGiven, graph_of, AllCallFit, CallsFit, NamesAreGiven, StillFit}
use Rattle.node_arena.specs.Meanings.{KeepsKnown, MapsNameNoNode}
use Rattle.node_arena.specs.Sound.{IsSoundArena}
use Rattle.node_arena.proofs.Rows.{same_or_not, same_id}

-- ---- names and functions together

module _ (P : NodeId → Type 0) (Q : FnKind → FnRef → Type 0) where
  both : (def : Def) → DefWithin P (λ k f. Unit {0}) def → DefWithin (λ n. Unit {0}) Q def → DefWithin P Q def
  both (graph.Const v) h c = h
  both (graph.Var v) h c = h
  both (graph.Map f ns) h c = (c.0, h.1)
  both (graph.Fold f v ns) h c = (c.0, h.1, h.2)
  both (graph.If t a b) h c = h
  both (graph.Join n) h c = h
  both (graph.Bind l f ns) h c = (c.0, h.1, h.2)
  both (graph.At t) h c = tt
  both (graph.Steps v steps) h c = h
  both graph.Now h c = tt
  both (graph.Every base span) h c = tt
  both (graph.Freeze n f) h c = (c.0, h.1)
  both (graph.Expert f v ns) h c = (c.0, h.1, h.2)

pub keeping : (a : Arena) (held : Holdings) → IsSoundArena a → HoldsGiven a.given held → (known : FnRef → Bool) (ids : FnRef → List NodeId)
    → AllCallFit known ids a → Keeping (Given a.given) (Fit a.given known ids) (graph_of a held)
keeping a held sound holds known ids fit = record {
  live = λ n r is. sound.given n (rw is refl);
  defs = λ n r is. both (Given a.given) (Fit a.given known ids) r.def (sound.names n r is) (fit n r is);
  scope = sound.scopes;
  frozen = holds.frozen;
  lists = holds.lists;
}

pub names_are_given : NamesAreGiven
names_are_given a held known ids sound holds fit =
    let keeps = keeping a held sound holds known ids fit in
    (keeps, keeping_names known ids a.given (graph_of a held) keeps)

-- ---- functions that fit still do

module _ (Q Q' : FnKind → FnRef → Type 0) (q : (k : FnKind) (f : FnRef) → Q k f → Q' k f) where
  pub calls_more : (def : Def) → DefWithin (λ n. Unit {0}) Q def → DefWithin (λ n. Unit {0}) Q' def
  calls_more (graph.Const v) h = h
  calls_more (graph.Var v) h = h
  calls_more (graph.Map f ns) h = (q _ f h.0, h.1)
  calls_more (graph.Fold f v ns) h = (q _ f h.0, h.1, h.2)
  calls_more (graph.If t a b) h = h
  calls_more (graph.Join n) h = h
  calls_more (graph.Bind l f ns) h = (q _ f h.0, h.1, h.2)
  calls_more (graph.At t) h = tt
  calls_more (graph.Steps v steps) h = h
  calls_more graph.Now h = tt
  calls_more (graph.Every base span) h = tt
  calls_more (graph.Freeze n f) h = (q _ f h.0, h.1)
  calls_more (graph.Expert f v ns) h = (q _ f h.0, h.1, h.2)

fit_more : (count count' : ℕ) (known known' : FnRef → Bool) (ids : FnRef → List NodeId) → count ≤ count' → KeepsKnown known known'
    → (k : FnKind) (f : FnRef) → Fit count known ids k f → Fit count' known' ids k f
fit_more count count' known known' ids le keeps k f h = ((keeps f h.0.0, h.0.1), λ n among. let g = h.1 n among in omega (arith, g, le))

-- what fits still does when more ids were given
pub calls_later : (count count' : ℕ) (known : FnRef → Bool) (ids : FnRef → List NodeId) → count ≤ count' → (def : Def) → CallsFit count known ids def
    → CallsFit count' known ids def
calls_later count count' known ids le def fits =
    calls_more (Fit count known ids) (Fit count' known ids) (fit_more count count' known known ids le (λ f h. h)) def fits

pub id_or_other : (n m : NodeId) → (n ≡ m) ⊎ (n ≢ m)
id_or_other n m = elim (same_or_not n.slot m.slot) [
  | inl slot ↦ elim (same_or_not n.gen_ m.gen_) [
    | inl gen ↦ inl (same_id n m.slot m.gen_ slot gen)
    | inr other ↦ inr (λ e. other (ap (λ (x : NodeId). x.gen_) e))
  ]
  | inr other ↦ inr (λ e. other (ap (λ (x : NodeId). x.slot) e))
]

pub still_fit : StillFit
still_fit known known' ids old new id row keeps changes le fits all n r is = elim (id_or_other n id) [
  | inl same ↦
      let e : row ≡ Some r = sym changes.changed ∙ (ap (λ (m : NodeId). row_at new m) (sym same) ∙ is) in
      subst (λ (o : Option Row). IfSome o (λ (x : Row). CallsFit new.given known' ids x.def)) e fits
  | inr other ↦
      calls_more (Fit old.given known ids) (Fit new.given known' ids) (fit_more old.given new.given known known' ids le keeps) r.def
      (all n r (sym (changes.others n other) ∙ is))
]

-- ---- values that name no node

names_none : (v : Value) → IsBase (type_of v) → ValueWithin (λ (n : NodeId). ⊥) v
names_none (value.Node n base) h = absurd h
names_none (value.Int z) h = tt
names_none (value.Bool z) h = tt
names_none (value.Text z) h = tt

pub maps_name_no_node : MapsNameNoNode
maps_name_no_node known value gives f args is = names_none (value f args) (gives f args is.0 is.1)
