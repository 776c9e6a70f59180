-- What a point depends on it still depends on after a bind is built anew.
use Rattle.std.proofs.Common.{◌≡◌, inl, inr, List, Option, None, Some, Bool, true, false, cond, refl, sym, ◌∙◌, ap}
use Rattle.inc_value.specs.declared.function.FnKind.{FnKind}
use Rattle.inc_value.specs.declared.function.FnRef.{FnRef}
use Rattle.inc_value.specs.declared.node.NodeId.{NodeId}
use Rattle.inc_value.specs.declared.node.Part.{Part}
use Rattle.inc_value.specs.declared.node.Part.TheVariants.{Change, Main}
use Rattle.inc_value.specs.declared.node.Point.{Point}
use Rattle.inc_value.specs.declared.outcome.Outcome.{Outcome}
use Rattle.inc_value.specs.declared.outcome.Outcome.TheVariants.{Val, Invalid}
use Rattle.inc_value.specs.declared.value.Value.TheVariants as value
use Rattle.inc_value.specs.Choice.{Among}
use Rattle.inc_terms.specs.Same.{same_node, same_outcome}
use Rattle.inc_terms.specs.Term.{Functions}
use Rattle.inc_terms.specs.Graph as graph
use Rattle.inc_terms.specs.Graph.{Graph, Row, Built, Def, present_def}
use Rattle.inc_terms.specs.Within.{TermWithin, FunctionsWithin}
use Rattle.inc_terms.specs.Evaluate.{Around, Gives, NodeGives, Stands}
use Rattle.inc_terms.specs.Rebuild.{Inside, Names, IsDue, Rebuilt}
use Rattle.inc_terms.specs.Depend.{Depends, gate, ghost, fixed, right, subject_of, kids_of, fixed_reads, root_for, right_of, at_most_one, Deaths}
use Rattle.inc_terms.proofs.Evaluation.{one_outcome}
use Rattle.inc_terms.proofs.Same.{node_decides, outcome_decides}
use Rattle.inc_terms.proofs.Agreement.{good_scope, scope_agrees}
use Rattle.inc_terms.proofs.Rebuild.{Kept, kept_row, rebuilt_agree, same_after, inside_falls}

pub same_kids : (G G' : Graph) (n : NodeId) → G'.frozen n ≡ G.frozen n → G'.lists n ≡ G.lists n → (def : Def) → kids_of G' n def ≡ kids_of G n def
same_kids G G' n frozen lists (graph.Freeze kid f) = rw frozen refl
same_kids G G' n frozen lists (graph.Expert f v kids) = rw lists refl
same_kids G G' n frozen lists _ = refl

pub same_fixed : (G G' : Graph) (n : NodeId) → G'.frozen n ≡ G.frozen n → G'.lists n ≡ G.lists n
    → (def : Def) (part : Part) → fixed_reads G' n def part ≡ fixed_reads G n def part
same_fixed G G' n frozen lists def Change = refl
same_fixed G G' n frozen lists def Main = rw (same_kids G G' n frozen lists def) refl

-- the root of a bind that is built for the outcome
pub built_for : (w : Option Built) (o : Outcome) (m : NodeId) → root_for w o ≡ Some m
    → (x : Built) × (w ≡ Some x) × (x.outcome ≡ o) × (x.root ≡ Some m)
built_for None o m e = absurd (cc)
built_for (Some x) o m e = told (same_outcome o x.outcome) refl e
  where
    told : (t : Bool) → same_outcome o x.outcome ≡ t → cond t x.root None ≡ Some m
        → (y : Built) × (Some x ≡ Some y) × (y.outcome ≡ o) × (y.root ≡ Some m)
    told true is e = (x, refl, sym ((outcome_decides o x.outcome).0 is), e)
    told false is e = absurd (cc)

pub among_one : (x : Option NodeId) (m : NodeId) → x ≡ Some m → Among m (at_most_one x)
among_one x m e = rw e (inl refl)

pub one_among : (x : Option NodeId) (m : NodeId) → Among m (at_most_one x) → x ≡ Some m
one_among None m h = absurd h
one_among (Some y) m (inl e) = rw e refl
one_among (Some y) m (inr h) = absurd h

module _ (F : Functions) (P : NodeId → Type 0) (Q : FnKind → FnRef → Type 0) (fine : FunctionsWithin F P Q) (G G' : Graph) (names : Names P Q G)
    (b : NodeId) (now : Outcome) (due : IsDue F G b now) (re : Rebuilt P G G' b) where
  abbrev Keeps : NodeId → Type 0
  Keeps n = Kept F P Q fine G G' names b now due re n

  -- what stands keeps standing
  pub stands_after : (n : NodeId) (r : Row) → Keeps n → G.row n ≡ Some r → Stands F G r.scope → Stands F G' r.scope
  stands_after n r k e st =
      let agree = rebuilt_agree F P Q fine G G' names b now due re in
      scope_agrees F P Q Keeps G G' fine agree r.scope (good_scope F P Q Keeps G G' fine agree n r k e r.scope refl) (Val (value.Bool true)) st

  -- inside the bind's scope nothing stood
  pub no_stand : (n : NodeId) (r : Row) → Inside G b n → G.row n ≡ Some r → Stands F G r.scope → ⊥
  no_stand n r i e st =
      let f = inside_falls F G b now due n i in
      let same : f.0 ≡ r = let e' = f.1 in cc in
      let fell : Gives F G (Around r.scope) Invalid = rw (← same) f.2 in
      let eq = one_outcome F G (Around r.scope) Invalid (Val (value.Bool true)) fell st in cc

  pub kept_or_not : (n : NodeId) (r : Row) → P n → G.row n ≡ Some r → Stands F G r.scope → Keeps n
  kept_or_not n r p e st = elim (re.rows n p) [ inl h ↦ absurd (no_stand n r h.0 e st) | inr h ↦ (p, h.0) ]

  -- a bind that stands and has a root for its left outcome is built for it as before
  same_built : (n : NodeId) (r : Row) (l : NodeId) (f : FnRef) (caps : List NodeId) (o : Outcome) (m : NodeId) → Keeps n
      → G.row n ≡ Some r → r.def ≡ graph.Bind l f caps
      → NodeGives F G l o → root_for (G.built n) o ≡ Some m → G'.built n ≡ G.built n
  same_built n r l f caps o m k e def g at = told (same_node n b) refl
    where
      told : (t : Bool) → same_node n b ≡ t → G'.built n ≡ G.built n
      told true is =
          let same : n ≡ b = (node_decides n b).0 is in
          let w = built_for (G.built n) o m at in
          let row : G.row b ≡ Some r = rw (← same) e in
          let rows : due.row ≡ r = let e' = due.is_row in cc in
          let defs : graph.Bind due.left due.function due.captures ≡ graph.Bind l f caps =
          (let x = due.is_bind in let y = ap (λ (z : Row). z.def) rows in cc) in
          let lefts : due.left ≡ l = cc in
          let there : NodeGives F G l now = rw (← lefts) due.gives in
          let os : o ≡ now = one_outcome F G _ o now g there in
          let built : G.built b ≡ Some w.0 = rw (← same) w.1 in
          absurd (due.changed w.0 built (w.2 ∙ os))
      told false is = re.built n k.0 (λ (same : n ≡ b). let yes_ = (node_decides n b).1 same in cc) k.1

  same_right : (n : NodeId) (r : Row) (s : NodeId) (o : Outcome) (m : NodeId) → Keeps n → G.row n ≡ Some r → (def : Def)
      → r.def ≡ def → subject_of def ≡ Some s
      → NodeGives F G s o → right_of G n def o ≡ Some m → right_of G' n def o ≡ Some m
  same_right n r s o m k e (graph.If t x y) is sub g h = alike o h
    where
      alike : (p : Outcome) → right_of G n (graph.If t x y) p ≡ Some m → right_of G' n (graph.If t x y) p ≡ Some m
      alike (Val (value.Bool true)) h = h
      alike (Val (value.Bool false)) h = h
      alike _ h = absurd (cc)
  same_right n r s o m k e (graph.Join x) is sub g h = alike o h
    where
      alike : (p : Outcome) → right_of G n (graph.Join x) p ≡ Some m → right_of G' n (graph.Join x) p ≡ Some m
      alike (Val (value.Node i base)) h = h
      alike _ h = absurd (cc)
  same_right n r s o m k e (graph.Bind l f caps) is sub g h =
      let subject : l ≡ s = cc in
      rw (same_built n r l f caps o m k e is (rw subject g) h) h
  same_right n r s o m k e _ is sub g h = absurd (cc)

  pub subject_given : (n : NodeId) (r : Row) (s : NodeId) → G.row n ≡ Some r → subject_of r.def ≡ Some s → P s
  subject_given n r s e sub = of_def r.def (names.reads n r e) sub
    where
      of_def : (def : Def) → TermWithin P Q (present_def G n def) → subject_of def ≡ Some s → P s
      of_def (graph.If t x y) h sub = let same : t ≡ s = cc in rw (← same) h.0
      of_def (graph.Join x) h sub = let same : x ≡ s = cc in rw (← same) h
      of_def (graph.Bind l f caps) h sub = let same : l ≡ s = cc in rw (← same) h.1
      of_def _ h sub = absurd (cc)

  -- what a point depends on grows
  pub grows : (died died' : NodeId → Option NodeId) → Deaths G G' died died' → (p q : Point) → P p.node
      → Depends F G died p q → Depends F G' died' p q
  grows died died' deaths p q given (gate {r} {b = c} e s is) = elim (re.rows p.node given) [
    | inl h ↦ ghost h.1 (deaths.now p.node r e h.1 ∙ s) is
    | inr h ↦ gate (h.1 ∙ e) s is
  ]
  grows died died' deaths p q given (ghost {b = c} e s is) = elim (re.rows p.node given) [
    | inl h ↦ ghost h.1 (deaths.earlier p.node e ∙ s) is
    | inr h ↦ ghost (h.1 ∙ e) (deaths.earlier p.node e ∙ s) is
  ]
  grows died died' deaths p q given (fixed {r} e st among) =
      let k = kept_or_not p.node r given e st in
      fixed (kept_row F P Q fine G G' names b now due re p.node k ∙ e) (stands_after p.node r k e st)
      (rw (same_fixed G G' p.node (re.frozen p.node given) (re.lists p.node given) r.def p.part) among)
  grows died died' deaths p q given (right {r} {s} {o} {m} e st part sub g at is) =
      let k = kept_or_not p.node r given e st in
      right (kept_row F P Q fine G G' names b now due re p.node k ∙ e) (stands_after p.node r k e st) part sub
      (same_after F P Q fine G G' names b now due re s (subject_given p.node r s e sub) o g)
      (among_one _ m (same_right p.node r s o m k e r.def refl sub g (one_among _ m at))) is
