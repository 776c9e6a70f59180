-- What every node gives is the same before and after one bind is built anew.
use Rattle.std.proofs.Common.{◌≡◌, ◌⊎◌, inl, inr, ℕ, suc, ◌+◌, Option, None, Some, Bool, true, false, cond, refl, sym, ◌∙◌, arith}
use Rattle.inc_value.specs.declared.function.FnKind.{FnKind}
use Rattle.inc_value.specs.declared.function.FnRef.{FnRef}
use Rattle.inc_value.specs.declared.node.NodeId.{NodeId}
use Rattle.inc_value.specs.declared.outcome.Outcome.{Outcome}
use Rattle.inc_value.specs.declared.outcome.Outcome.TheVariants.{Val, Invalid}
use Rattle.inc_value.specs.declared.value.Value.TheVariants as value
use Rattle.inc_terms.specs.Same.{same_outcome}
use Rattle.inc_terms.specs.Term.{Ref, Functions}
use Rattle.inc_terms.specs.Graph as graph
use Rattle.inc_terms.specs.Graph.{Graph, Row, Built, Def, present_def}
use Rattle.inc_terms.specs.Within.{FunctionsWithin}
use Rattle.inc_terms.specs.Evaluate.{Of, Around, as_built, answer, Gives, NodeGives}
use Rattle.inc_terms.specs.Agree.{Agree}
use Rattle.inc_terms.specs.Rebuild.{Inside, direct, nested, Names, IsDue, Rebuilt}
use Rattle.inc_terms.proofs.Evaluation.{at_depth}
use Rattle.inc_terms.proofs.Same.{outcome_decides}
use Rattle.inc_terms.proofs.Agreement.{node_agrees}

-- ---- what doesn't stand

pub dead_gives : (F : Functions) (G : Graph) (n : NodeId) → G.row n ≡ None → NodeGives F G n Invalid
unfolding answer
dead_gives F G n e = (1, rw e refl)

pub fallen_gives : (F : Functions) (G : Graph) (n : NodeId) (r : Row) → G.row n ≡ Some r
    → Gives F G (Around r.scope) Invalid → NodeGives F G n Invalid
unfolding answer
fallen_gives F G n r e g = (suc g.0, rw (e, g.1) refl)

other_outcome : (built : Option Built) (o : Outcome) → ((w : Built) → built ≡ Some w → w.outcome ≡ o → ⊥) → as_built built o ≡ Some Invalid
other_outcome None o h = refl
other_outcome (Some w) o h = told (same_outcome o w.outcome) refl
  where
    told : (t : Bool) → same_outcome o w.outcome ≡ t → cond t (Some (Val (value.Bool true))) (Some Invalid) ≡ Some Invalid
    told true e = absurd (h w refl (sym ((outcome_decides o w.outcome).0 e)))
    told false e = refl

module _ (F : Functions) (G : Graph) (b : NodeId) (now : Outcome) (due : IsDue F G b now) where
  scope_fails : Gives F G (Around (Some b)) Invalid
  unfolding answer
  scope_fails =
      let d : ℕ = due.stands.0 + due.gives.0 in
      let first = at_depth F G due.stands.0 d (Around due.row.scope) (Val (value.Bool true)) (omega arith) due.stands.1 in
      let second = at_depth F G due.gives.0 d (Of (Ref due.left)) now (omega arith) due.gives.1 in
      (suc d, rw (due.is_row, first, due.is_bind, second) (other_outcome (G.built b) now due.changed))

  inner_fails : (c : NodeId) (r : Row) → G.row c ≡ Some r → Gives F G (Around r.scope) Invalid → Gives F G (Around (Some c)) Invalid
  unfolding answer
  inner_fails c r e g = (suc g.0, rw (e, g.1) refl)

  abbrev pub Falls : NodeId → Type 0
  Falls n = (r : Row) × (G.row n ≡ Some r) × Gives F G (Around r.scope) Invalid

  pub inside_falls : (n : NodeId) → Inside G b n → Falls n
  inside_falls n (direct {r} e s) = (r, e, rw s scope_fails)
  inside_falls n (nested {r} {c} e s i) = let f = inside_falls c i in (r, e, rw s (inner_fails c f.0 f.1 f.2))

  pub inside_gives : (n : NodeId) → Inside G b n → NodeGives F G n Invalid
  inside_gives n i = let f = inside_falls n i in fallen_gives F G n f.0 f.1 f.2

-- ---- two graphs

pub same_present : (G G' : Graph) (n : NodeId) → G'.now ≡ G.now → G'.frozen n ≡ G.frozen n → G'.lists n ≡ G.lists n
    → (def : Def) → present_def G' n def ≡ present_def G n def
same_present G G' n now frozen lists (graph.Every base span) = rw now refl
same_present G G' n now frozen lists (graph.Freeze kid f) = rw frozen refl
same_present G G' n now frozen lists (graph.Expert f v kids) = rw lists refl
same_present G G' n now frozen lists _ = refl

agree_back : (F : Functions) (P : NodeId → Type 0) (Q : FnKind → FnRef → Type 0) (K : NodeId → Type 0) (G G' : Graph)
    → Agree F P Q K G G' → Agree F P Q K G' G
agree_back F P Q K G G' a = record {
  now = sym a.now;
  either = λ n p. elim (a.either n p) [ inl h ↦ inl (h.1, h.0) | inr k ↦ inr k ];
  row = λ n k. sym (a.row n k);
  reads = λ n r k e. let x = a.reads n r k (sym (a.row n k) ∙ e) in (sym x.0, rw x.0 x.1);
  scope = λ n r b k e s. let x = a.scope n r b k (sym (a.row n k) ∙ e) s in (x.0, sym x.1);
}

module _ (F : Functions) (P : NodeId → Type 0) (Q : FnKind → FnRef → Type 0) (fine : FunctionsWithin F P Q) (G G' : Graph) (names : Names P Q G)
    (b : NodeId) (now : Outcome) (due : IsDue F G b now) (re : Rebuilt P G G' b) where
  -- a given node outside the bind's scope
  abbrev pub Kept : NodeId → Type 0
  Kept n = P n × (Inside G b n → ⊥)

  pub kept_row : (n : NodeId) → Kept n → G'.row n ≡ G.row n
  kept_row n k = elim (re.rows n k.0) [ inl h ↦ absurd (k.1 h.0) | inr h ↦ h.1 ]

  pub kept_scope : (n : NodeId) (r : Row) (c : NodeId) → Kept n → G.row n ≡ Some r → r.scope ≡ Some c → Kept c × (G'.built c ≡ G.built c)
  kept_scope n r c k e s =
      let p : P c = names.scope n r c e s in
      let out : (Inside G b c → ⊥) = λ i. k.1 (nested e s i) in
      ((p, out), re.built c p (λ (same : c ≡ b). k.1 (direct e (rw same at s))) out)

  either_way : (n : NodeId) → P n → (NodeGives F G n Invalid × NodeGives F G' n Invalid) ⊎ Kept n
  either_way n p = elim (re.rows n p) [
    | inl h ↦ inl (inside_gives F G b now due n h.0, dead_gives F G' n h.1)
    | inr h ↦ inr (p, h.0)
  ]

  pub rebuilt_agree : Agree F P Q Kept G G'
  rebuilt_agree = record {
    now = re.clock;
    either = either_way;
    row = kept_row;
    reads = λ n r k e. (same_present G G' n re.clock (re.frozen n k.0) (re.lists n k.0) r.def, names.reads n r e);
    scope = kept_scope;
  }

  pub same_after : (n : NodeId) → P n → (o : Outcome) → NodeGives F G n o → NodeGives F G' n o
  same_after n p o g = (node_agrees F P Q Kept G G' fine rebuilt_agree n p o g).0

  pub same_before : (n : NodeId) → P n → (o : Outcome) → NodeGives F G' n o → NodeGives F G n o
  same_before n p o g = (node_agrees F P Q Kept G' G fine (agree_back F P Q Kept G G' rebuilt_agree) n p o g).0

  -- what died gave Invalid before and gives it after
  pub died_invalid : (n : NodeId) → Inside G b n → NodeGives F G n Invalid × (P n → NodeGives F G' n Invalid)
  died_invalid n i = let before = inside_gives F G b now due n i in (before, λ p. same_after n p Invalid before)
