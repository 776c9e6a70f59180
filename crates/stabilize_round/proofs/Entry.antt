-- A round begins with the invariant.
use Rattle.std.proofs.Common.{◌≡◌, inl, inr, true, Option, None, refl, sym, ap, ◌∙◌, arith}
use Rattle.inc_value.specs.declared.node.NodeId.{NodeId}
use Rattle.inc_value.specs.declared.node.Point.{Point}
use Rattle.inc_value.specs.Choice.{Among, here}
use Rattle.inc_terms.specs.Graph.{Row}
use Rattle.inc_terms.specs.Evaluate.{Stands, answer}
use Rattle.inc_terms.specs.Depend.{main}
use Rattle.stabilize_round.specs.Freezing.{fires, row_fires}
use Rattle.inc_terms.specs.Term.{Functions}
use Rattle.stabilize_round.specs.State.{State, Start, Call}
use Rattle.stabilize_round.specs.Invariant.{Invariant, from_held}
use Rattle.stabilize_round.specs.Machine.{Entry}
use Rattle.stabilize_round.proofs.Counts.{none_yet}

module _ (F : Functions) (z : Start) (s : State) (entry : Entry F z s) where
  not_settled : {P : Type 0} → (p : Point) → s.settled p ≡ true → P
  not_settled p h = absurd (let x = entry.settled p in cc)

  not_strict : {P : Type 0} → s.retries ≡ 0 → P
  not_strict h = absurd (let x : 1024 ≡ 0 = sym entry.retries ∙ h in omega (arith, x))

  none_ran : {P : Type 0} → (n : NodeId) → Among n s.ran → P
  none_ran n h = absurd (let x = rw entry.ran at h in x)

  -- what stands in no scope stands
  at_top : (x : Option NodeId) → x ≡ None → Stands F s.graph x
  unfolding answer
  at_top x e = rw e (1, refl)

  pub entry_holds : Invariant F z s
  entry_holds = record {
    web = entry.web;
    alive = entry.alive;
    rows = record {
      links = entry.links;
      bare = λ p need e. absurd (entry.bare p need e);
      owed = entry.owed;
    };
    scoped = entry.scoped;
    rooted = entry.rooted;
    built = entry.built;
    waits = record {
      gated = λ p r row need td e. absurd (let f = entry.full p r row need in cc);
      static = λ p r row need td e. absurd (let f = entry.full p r row need in cc);
    };
    fresh = λ p r row need. elim (entry.fresh p r row need) [ inl h ↦ inl h | inr a ↦ inr (inr (entry.full p r row need, a.0, a.1, a.2)) ];
    settled = record { done = λ p h. not_settled p h; twice = λ p h k. not_settled p h };
    strict = record { gates = λ h p r b row need sc st. not_strict h; rights = λ h n r q row need st among. not_strict h };
    last_settled = λ p e. absurd (let x = entry.taken in cc);
    met = record {
      needed = λ p need. inr (entry.held p ∙ need);
      todo = λ p need td. let r = entry.todo p need td in from_held (entry.held p ∙ need) r.1 (at_top r.0.scope r.2) here;
    };
    accounts = record {
      once = rw entry.ran tt;
      called = λ n a. none_ran n a;
      costs = λ n a. none_ran n a;
      kept = λ n r row h. inl (sym (entry.last n));
      count = rw (entry.ran, entry.calls) none_yet;
      answers = entry.answers;
      cutoffs = λ n. sym (entry.cutoff n);
      marked = λ n h. sym (entry.stale n);
      unmarked = λ n h. not_settled (main n) h;
      renewed = λ n r kids values st h row takes gives some. not_settled (main n) h;
      unfired = λ n r row. ap (λ (x : Option Call). fires r.def (s.graph.frozen n) x) (entry.last n)
          ∙ sym (ap (λ (x : Option Row). row_fires x (s.graph.frozen n) (s.last n)) row) ∙ entry.unfired n;
    };
  }
