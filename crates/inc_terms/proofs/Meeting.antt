-- What is met grows while binds are built anew.
use Rattle.std.proofs.Common.{◌≡◌, inl, inr, List, [], ◌∷◌, map, Option, None, Some, true, false, refl, ◌∙◌}
use Rattle.inc_value.specs.declared.function.FnKind.{FnKind}
use Rattle.inc_value.specs.declared.function.FnRef.{FnRef}
use Rattle.inc_value.specs.declared.node.NodeId.{NodeId}
use Rattle.inc_value.specs.declared.node.Part.{Part}
use Rattle.inc_value.specs.declared.node.Part.TheVariants.{Change, Main}
use Rattle.inc_value.specs.declared.node.Point.{Point}
use Rattle.inc_value.specs.declared.outcome.Outcome.{Outcome}
use Rattle.inc_value.specs.declared.outcome.Outcome.TheVariants.{Val}
use Rattle.inc_value.specs.declared.value.Value.{Value}
use Rattle.inc_value.specs.declared.value.Value.TheVariants as value
use Rattle.inc_value.specs.Choice.{Among, Reaches, here, step}
use Rattle.inc_terms.specs.Term.{Functions, refs}
use Rattle.inc_terms.specs.Graph as graph
use Rattle.inc_terms.specs.Graph.{Graph, Row, Def, present_def, frozen_or}
use Rattle.inc_terms.specs.Within.{TermWithin, TermsWithin, FunctionsWithin, OutcomeWithin}
use Rattle.inc_terms.specs.Evaluate.{NodeGives}
use Rattle.inc_terms.specs.Agree.{Agree}
use Rattle.inc_terms.specs.Rebuild.{Inside, direct, nested, Names, IsDue, Rebuilt}
use Rattle.inc_terms.specs.Depend.{Depends, gate, ghost, fixed, right, main, subject_of, unfrozen, kids_of, fixed_reads, right_of, Deaths}
use Rattle.inc_terms.specs.Need.{IsUnfrozen, IsRoot, Met, from_root, from_held, Keeps}
use Rattle.inc_terms.proofs.Agreement.{node_agrees}
use Rattle.inc_terms.proofs.Rebuild.{kept_row}
use Rattle.inc_terms.proofs.Depending.{built_for, one_among, grows, kept_or_not, stands_after}

module _ (F : Functions) (P : NodeId → Type 0) (Q : FnKind → FnRef → Type 0) (fine : FunctionsWithin F P Q)
    (G : Graph) (names : Names P Q G) (died : NodeId → Option NodeId) (keeps : Keeps P G died) where
  agrees_itself : Agree F P Q P G G
  agrees_itself = record {
    now = refl;
    either = λ n p. inr p;
    row = λ n p. refl;
    reads = λ n r p e. (refl, names.reads n r e);
    scope = λ n r b p e s. (names.scope n r b e s, refl);
  }

  -- what a given node gives names given nodes
  pub outcome_fine : (n : NodeId) (o : Outcome) → P n → NodeGives F G n o → OutcomeWithin P o
  outcome_fine n o p g = (node_agrees F P Q P G G fine agrees_itself n p o g).1

  each_given : (q : Point) (ns : List NodeId) → TermsWithin P Q (refs ns) → Among q (map main ns) → P q.node
  each_given q [] h a = absurd a
  each_given q (n ∷ ns) h (inl e) = rw e h.0
  each_given q (n ∷ ns) h (inr a) = each_given q ns h.1 a

  freeze_given : (q : Point) (kid : NodeId) (x : Option Value) → TermWithin P Q (frozen_or kid x) → Among q (map main (unfrozen kid x)) → P q.node
  freeze_given q kid None h (inl e) = rw e h
  freeze_given q kid None h (inr a) = absurd a
  freeze_given q kid (Some v) h a = absurd a

  kids_given : (q : Point) (n : NodeId) (def : Def) → TermWithin P Q (present_def G n def) → Among q (map main (kids_of G n def)) → P q.node
  kids_given q n (graph.Map f kids) h a = each_given q kids h.1 a
  kids_given q n (graph.Fold f v kids) h a = each_given q kids h.2 a
  kids_given q n (graph.Expert f v kids) h a = each_given q (G.lists n) h.2 a
  kids_given q n (graph.Freeze kid f) h a = freeze_given q kid (G.frozen n) h a
  kids_given q n _ h a = absurd a

  fixed_given : (q : Point) (n : NodeId) (r : Row) (part : Part) → P n → G.row n ≡ Some r → (s : Option NodeId)
      → subject_of r.def ≡ s → ((m : NodeId) → s ≡ Some m → P m)
      → Among q (fixed_reads G n r.def part) → P q.node
  fixed_given q n r Change p e None sub sp a = let x = rw sub at a in absurd x
  fixed_given q n r Change p e (Some s) sub sp a = elim (rw sub at a) [ inl is ↦ rw is (sp s refl) | inr x ↦ absurd x ]
  fixed_given q n r Main p e None sub sp a = kids_given q n r.def (names.reads n r e) (rw sub at a)
  fixed_given q n r Main p e (Some s) sub sp a = elim (rw sub at a) [ inl is ↦ rw is p | inr x ↦ absurd x ]

  right_given : (n : NodeId) (def : Def) (o : Outcome) (m : NodeId) → P n → TermWithin P Q (present_def G n def)
      → OutcomeWithin P o → right_of G n def o ≡ Some m → P m
  right_given n (graph.If t a b) (Val (value.Bool true)) m p h ho e = let same : a ≡ m = cc in rw (← same) h.1
  right_given n (graph.If t a b) (Val (value.Bool false)) m p h ho e = let same : b ≡ m = cc in rw (← same) h.2
  right_given n (graph.Join k) (Val (value.Node i base)) m p h ho e = let same : i ≡ m = cc in rw (← same) ho
  right_given n (graph.Bind l f caps) o m p h ho e = let w = built_for (G.built n) o m e in keeps.roots n w.0 m p w.1 w.3
  right_given n _ o m p h ho e = absurd (cc)

  -- what a point of a given node depends on is of a given node
  pub depends_given : (p q : Point) → P p.node → Depends F G died p q → P q.node
  depends_given p q given (gate {r} {b} e s is) = rw is (names.scope p.node r b e s)
  depends_given p q given (ghost {b} e d is) = rw is (keeps.scopes p.node b given d)
  depends_given p q given (fixed {r} e st a) = fixed_given q p.node r p.part given e (subject_of r.def) refl (λ m s. sub_given r m e s) a
    where
      sub_given : (r : Row) (m : NodeId) → G.row p.node ≡ Some r → subject_of r.def ≡ Some m → P m
      sub_given r m e s = of_def r.def (names.reads p.node r e) s
        where
          of_def : (def : Def) → TermWithin P Q (present_def G p.node def) → subject_of def ≡ Some m → P m
          of_def (graph.If t x y) h sub = let same : t ≡ m = cc in rw (← same) h.0
          of_def (graph.Join x) h sub = let same : x ≡ m = cc in rw (← same) h
          of_def (graph.Bind l f caps) h sub = let same : l ≡ m = cc in rw (← same) h.1
          of_def _ h sub = absurd (cc)
  depends_given p q given (right {r} {s} {o} {m} e st part sub gives at is) =
      rw is (right_given p.node r.def o m given (names.reads p.node r e)
      (outcome_fine s o (sub_given r.def (names.reads p.node r e) sub) gives) (one_among _ m at))
    where
      sub_given : (def : Def) → TermWithin P Q (present_def G p.node def) → subject_of def ≡ Some s → P s
      sub_given (graph.If t x y) h sub = let same : t ≡ s = cc in rw (← same) h.0
      sub_given (graph.Join x) h sub = let same : x ≡ s = cc in rw (← same) h
      sub_given (graph.Bind l f caps) h sub = let same : l ≡ s = cc in rw (← same) h.1
      sub_given _ h sub = absurd (cc)

-- ---- over one bind built anew

module _ (F : Functions) (P : NodeId → Type 0) (Q : FnKind → FnRef → Type 0) (fine : FunctionsWithin F P Q) (G G' : Graph) (names : Names P Q G)
    (b : NodeId) (now : Outcome) (due : IsDue F G b now) (re : Rebuilt P G G' b) (died died' : NodeId → Option NodeId)
    (deaths : Deaths G G' died died') (keeps : Keeps P G died) where
  pub way_grows : (p q : Point) → P p.node → Reaches (Depends F G died) p q → Reaches (Depends F G' died') p q
  way_grows p q given here = here
  way_grows p q given (step {b = m} d rest) =
      step (grows F P Q fine G G' names b now due re died died' deaths p m given d)
      (way_grows m q (depends_given F P Q fine G names died keeps p m given d) rest)

  -- a freeze that keeps no value yet stays one
  unfrozen_after : (n : NodeId) → IsUnfrozen G n → IsUnfrozen G' n × P n
  unfrozen_after n u =
      let top = keeps.freezes n u.row u.kid u.predicate u.is_row u.is_freeze in
      let p = names.live n u.row u.is_row in
      elim (re.rows n p) [
        | inl h ↦ absurd (not_inside n u.row u.is_row top h.0)
        | inr h ↦ (
          record {
            row = u.row;
            kid = u.kid;
            predicate = u.predicate;
            is_row = h.1 ∙ u.is_row;
            is_freeze = u.is_freeze;
            keeps_none = re.frozen n p ∙ u.keeps_none;
          },
          p,
        )
      ]
    where
      not_inside : (n : NodeId) (r : Row) → G.row n ≡ Some r → r.scope ≡ None → Inside G b n → ⊥
      not_inside n r e s (direct {r = r'} e' s') = let same : r ≡ r' = cc in let s'' : r'.scope ≡ None = rw (← same) s in absurd (cc)
      not_inside n r e s (nested {r = r'} e' s' i) = let same : r ≡ r' = cc in let s'' : r'.scope ≡ None = rw (← same) s in absurd (cc)

  root_after : (observed : List NodeId) → ((n : NodeId) → Among n observed → P n) → (n : NodeId) → IsRoot G observed n → IsRoot G' observed n × P n
  root_after observed og n (inl a) = (inl a, og n a)
  root_after observed og n (inr u) = let v = unfrozen_after n u in (inr v.0, v.1)

  pub met_grows : (observed : List NodeId) (held : Point → Type 0) → ((n : NodeId) → Among n observed → P n)
      → ((h : Point) → held h → P h.node) → (p : Point)
      → Met F G died observed held p → Met F G' died' observed held p
  met_grows observed held og hg p (from_root {n} a way) = let root = root_after observed og n a in from_root root.0 (way_grows (main n) p root.1 way)
  met_grows observed held og hg p (from_held {h} {r} is e st way) =
      let k = kept_or_not F P Q fine G G' names b now due re h.node r (hg h is) e st in
      from_held is (kept_row F P Q fine G G' names b now due re h.node k ∙ e)
      (stands_after F P Q fine G G' names b now due re h.node r k e st) (way_grows h p (hg h is) way)
