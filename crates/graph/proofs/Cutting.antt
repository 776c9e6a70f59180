-- A node's cutoff is set.
use Rattle.std.proofs.Common.{◌≡◌, inl, inr, ℕ, ◌+◌, ◌≤◌, List, map, take, Option, None, Some, refl, sym, ap, subst, ◌∙◌}
use Rattle.std.specs.Prelude.{is_some, IsSome, option_map}
use Rattle.inc_value.specs.declared.node.NodeId.{NodeId}
use Rattle.inc_value.specs.declared.node.Point.{Point}
use Rattle.inc_terms.specs.Depend.{main, change}
use Rattle.inc_terms.specs.Graph.{Row}
use Rattle.inc_terms.specs.Within.{Given}
use Rattle.map_nodes.specs.declared.cutoff.Cutoff.{Cutoff}
use Rattle.point_map.specs.Rows.{at}
use Rattle.link_table.specs.Links.{times}
use Rattle.necessity.specs.Need.{root_times}
use Rattle.node_arena.specs.Arena.{Arena, row_at}
use Rattle.stabilize_round.proofs.Points.{same_or_other}
use Rattle.stabilize_round.specs.State.{count}
use Rattle.expert_nodes.specs.Experts.{is_stale_at, kids_at}
use Rattle.node_outcomes.specs.Computing.{seen_of, seen}
use Rattle.wiring.specs.Kept.{IsKept}
use Rattle.node_outcomes.specs.Meaning.{Meaning}
use Rattle.stabilizer.specs.Kept.{graph_in}
use Rattle.stabilizer.specs.Look.{freeze_roots, last_of}
use Rattle.stabilizer.specs.Round.{IsReady}
use Rattle.node_outcomes.specs.Row.{IsRewritten, with_cutoff, outcome_in, cutoff_in, kept_in}
use Rattle.stabilizer.specs.declared.parts.Parts.{Parts}
use Rattle.wiring.specs.declared.refused.Refused.{Refused}
use Rattle.node_outcomes.specs.Progress.{Progress}
use Rattle.stabilizer.proofs.Round.Beginning.{main_there}
use Rattle.graph.specs.Effects.{SetsCutoff}
use Rattle.graph.specs.Inside.{FitsInside}
use Rattle.graph.specs.Standing.{GraphView}
use Rattle.graph.proofs.Freezes.{freezes_as}
use Rattle.graph.proofs.Seeing.{seen_as, built_still}
use Rattle.observers.specs.Observers.{ObserversView, in_use}
use Rattle.observers.specs.declared.observer.Observer.{Observer}
use Rattle.graph.proofs.Sound.{ready_built}

seen_still : (c : Cutoff) (x : Option Progress) → seen_of (option_map (with_cutoff c) x) ≡ seen_of x
seen_still c None = refl
seen_still c (Some k) = refl

no_row : (x : Option Progress) (y : Option Row) → is_some x ≡ is_some y → (IsSome y → ⊥) → x ≡ None
no_row None y same dead = refl
no_row (Some k) None same dead = absurd (cc)
no_row (Some k) (Some r) same dead = absurd (dead refl)

module _ (old new : Parts) (id : NodeId) (c : Cutoff) (set : IsRewritten old.work.rows new.work.rows (main id) (with_cutoff c))
    (rest : new ≡ record old { work = record old.work { rows = new.work.rows } }) where
  -- what the cutoff doesn't tell stays
  same_in : {A : Type 0} (f : Option Progress → A) → ((x : Option Progress) → f (option_map (with_cutoff c) x) ≡ f x) → (p : Point)
      → f (at new.work.rows p) ≡ f (at old.work.rows p)
  same_in f still p = elim (same_or_other (main id) p) [
    | inl e ↦ subst (λ (x : Point). f (at new.work.rows x) ≡ f (at old.work.rows x)) e (ap f set.changed ∙ still (at old.work.rows (main id)))
    | inr ne ↦ ap f (set.others p (λ h. ne (sym h)))
  ]

  seen_same : (p : Point) → seen new.work.rows p ≡ seen old.work.rows p
  seen_same = same_in seen_of (seen_still c)

  outcome_still : (x : Option Progress) → outcome_in (option_map (with_cutoff c) x) ≡ outcome_in x
  outcome_still None = refl
  outcome_still (Some k) = refl

  last_still : (x : Option Progress) → last_of (option_map (with_cutoff c) x) ≡ last_of x
  last_still None = refl
  last_still (Some k) = refl

  kept_still : (x : Option Progress) → kept_in (option_map (with_cutoff c) x) ≡ kept_in x
  kept_still None = refl
  kept_still (Some k) = refl

  arena_as : new.arena ≡ old.arena
  arena_as = ap (λ (p : Parts). p.arena) rest

  freezes_still : (since : ℕ) (p : Point) → freeze_roots (graph_in new) since p ≡ freeze_roots (graph_in old) since p
  freezes_still since = freezes_as (graph_in old) (graph_in new) since (λ n early. ap (λ (a : Arena). row_at a n) arena_as)
      (λ n early. same_in kept_in kept_still (main n))

  pub sound_cut : (M : Meaning) (observers : List Observer) (rooted since : ℕ) (refused : Option Refused)
      → FitsInside M old observers rooted since refused → refused ≡ None
      → (IsReady M old → IsReady M new)
      → FitsInside M new observers rooted since refused
  sound_cut M observers rooted since refused sound still ready = record {
    few = sound.few;
    earlier = sound.earlier;
    past = subst (λ (a : Arena). since ≤ a.given) (sym arena_as) sound.past;
    kept = (ready (sound.unbroken still).ready).kept;
    built = ready_built M new (ready (sound.unbroken still).ready);
    inside = (ready (sound.unbroken still).ready).inside;
    showing = sound.showing;
    later = sound.later;
    unbroken = λ whole. let can = sound.unbroken whole in record {
      ready = ready can.ready;
      roots = λ p. ap (λ (x : Parts). root_times x.work.graph.roots p) rest
          ∙ (can.roots p ∙ ap (λ (k : ℕ). count p (map main (in_use (take rooted observers))) + k) (sym (freezes_still since p)));
      given = λ n among. subst (λ (a : Arena). Given a.given n) (sym arena_as) (can.given n among);
      shown = λ o x among used shown. seen_same (main o.node) ∙ can.shown o x among used shown;
    };
  }

  -- of a row that there is
  cut_at : (x : Option Progress) → IsSome x → cutoff_in (option_map (with_cutoff c) x) ≡ c
  cut_at None there = absurd (cc)
  cut_at (Some k) there = refl

  module _ {F : Type 0} (functions : F) (observers : ObserversView) (rooted since : ℕ) (refused : Option Refused) where
    abbrev before : GraphView F
    before = seen_as functions old observers rooted since refused

    abbrev after : GraphView F
    after = seen_as functions new observers rooted since refused

    pub sets_cutoff : IsKept old.arena old.work → (at old.work.rows (main id) ≡ None → new ≡ old) → SetsCutoff before after id c
    sets_cutoff kept dead = record {
      set = λ live. ap cutoff_in set.changed ∙ cut_at (at old.work.rows (main id)) (main_there old.arena old.work kept id ∙ live);
      others = λ n other. ap cutoff_in (set.others (main n) (λ e. other (ap (λ (p : Point). p.node) e)));
      dead = λ not. ap (λ (p : Parts). seen_as functions p observers rooted since refused)
          (dead (no_row (at old.work.rows (main id)) (row_at old.arena id) (main_there old.arena old.work kept id) not));
      top = record { functions = refl; rooted = refl; since = refl; refused = refl; ran = ap (λ (p : Parts). p.ran.items) rest; notices = refl };
      nodes = arena_as;
      observers = refl;
      need = record {
        links = λ p q. ap (λ (x : Parts). times x.work.graph.links p q) rest;
        roots = λ p. ap (λ (x : Parts). root_times x.work.graph.roots p) rest;
      };
      of_nodes = record {
        shown = λ n of. seen_same (main n);
        chosen = λ n of. same_in outcome_in outcome_still (change n);
        built = λ n of. built_still old new n (ap (λ (a : Arena). row_at a n) arena_as) (same_in outcome_in outcome_still (change n))
            (ap (λ (p : Parts). at p.work.roots (change n)) rest);
        last = λ n of. same_in last_of last_still (main n);
        frozen = λ n of. same_in kept_in kept_still (main n);
        lists = λ n of. ap (λ (p : Parts). kids_at p.work.experts n) rest;
        marks = λ n of. ap (λ (p : Parts). is_stale_at p.work.experts n) rest;
      };
    }
