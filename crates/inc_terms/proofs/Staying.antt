-- What a root reads back as stays while its scope is kept.
use Rattle.std.proofs.Common.{◌≡◌, inl, inr, List, [], ◌∷◌, Option, None, Some, sym, ◌∙◌}
use Rattle.inc_value.specs.declared.function.FnKind.{FnKind}
use Rattle.inc_value.specs.declared.function.FnRef.{FnRef}
use Rattle.inc_value.specs.declared.node.NodeId.{NodeId}
use Rattle.inc_terms.specs.Term.{Term, Terms, Const, Ref, Cap, Map, Fold, If, Join, Bind, At, Steps, Now, End, More, refs}
use Rattle.inc_terms.specs.Graph.{Graph, Row, Def, present_def}
use Rattle.inc_terms.specs.Within.{TermWithin, TermsWithin}
use Rattle.inc_terms.specs.Unfold.{IsIn, Outside, Unfolds, UnfoldsAll}
use Rattle.inc_terms.specs.Rebuild.{Inside, direct, nested, Names, Rebuilt}
use Rattle.inc_terms.specs.Stay.{KeepsScope}
use Rattle.inc_terms.specs.Laws.{IsApart}

module _ (P : NodeId → Type 0) (Q : FnKind → FnRef → Type 0) (G G' : Graph) (names : Names P Q G)
    (S : Option NodeId) (keeps : KeepsScope P G G' S) (caps : List NodeId) where
  is_in : (n : NodeId) (def : Def) → IsIn G S n def → IsIn G' S n def
  is_in n def h = (h.0, keeps.rows n h.0 h.1 h.2, h.2, h.3)

  -- what a node of the scope names is of the set
  named_fine : (n : NodeId) (def : Def) → IsIn G S n def → TermWithin P Q (present_def G n def)
  named_fine n def h = rw h.3 at (names.reads n h.0 h.1)

  mutual
    pub unfolds_stay : (t : Term) (n : NodeId) → P n → Unfolds G S caps n t → Unfolds G' S caps n t
    unfolds_stay (Const v) n p h = is_in n _ h
    unfolds_stay (Ref m) n p h = (h.0, keeps.outside n p h.1)
    unfolds_stay (Cap i) n p h = (h.0, keeps.outside n p h.1)
    unfolds_stay (Map f ts) n p h = (h.0, is_in n _ h.1, unfolds_all_stay ts h.0 (named_fine n _ h.1).1 h.2)
    unfolds_stay (Fold f v ts) n p h = (h.0, is_in n _ h.1, unfolds_all_stay ts h.0 (named_fine n _ h.1).2 h.2)
    unfolds_stay (If t a b) n p h =
        let w = named_fine n _ h.3 in (
          h.0,
          h.1,
          h.2,
          is_in n _ h.3,
          unfolds_stay t h.0 w.0 h.4,
          unfolds_stay a h.1 w.1
              h.5,
          unfolds_stay b h.2 w.2 h.6,
        )
    unfolds_stay (Join t) n p h = (h.0, is_in n _ h.1, unfolds_stay t h.0 (named_fine n _ h.1) h.2)
    unfolds_stay (Bind l f ts) n p h =
        let w = named_fine n _ h.2 in (h.0, h.1, is_in n _ h.2, unfolds_stay l h.0 w.1 h.3, unfolds_all_stay ts h.1 w.2 h.4)
    unfolds_stay (At t) n p h = is_in n _ h
    unfolds_stay (Steps v ss) n p h = is_in n _ h
    unfolds_stay Now n p h = is_in n _ h

    pub unfolds_all_stay : (ts : Terms) (ns : List NodeId) → TermsWithin P Q (refs ns) → UnfoldsAll G S caps ns ts → UnfoldsAll G' S caps ns ts
    unfolds_all_stay End [] p h = tt
    unfolds_all_stay End (n ∷ ns) p h = absurd h
    unfolds_all_stay (More t ts) [] p h = absurd h
    unfolds_all_stay (More t ts) (n ∷ ns) p h = (unfolds_stay t n p.0 h.0, unfolds_all_stay ts ns p.1 h.1)

-- the scope of another bind that is kept
pub other_scope : (P : NodeId → Type 0) (G G' : Graph) → ((n : NodeId) (r : Row) → G.row n ≡ Some r → P n) → (b c : NodeId)
    → Rebuilt P G G' b → (c ≡ b → ⊥) → (Inside G b c → ⊥) → KeepsScope P G G' (Some c)
other_scope P G G' live b c re apart out = record {
  rows = λ n r e s. elim (re.rows n (live n r e)) [
    | inl h ↦ absurd (not_in n r e s h.0)
    | inr h ↦ h.1 ∙ e
  ];
  outside = λ n p o r e s. elim (re.rows n p) [
    | inl h ↦ absurd (let x = h.1 in cc)
    | inr h ↦ o r (sym h.1 ∙ e) s
  ];
}
  where
    not_in : (n : NodeId) (r : Row) → G.row n ≡ Some r → r.scope ≡ Some c → Inside G b n → ⊥
    not_in n r e s (direct {r = r'} e' s') = apart (let same : r ≡ r' = cc in let s'' : r'.scope ≡ Some c = rw (← same) s in cc)
    not_in n r e s (nested {r = r'} {c = d} e' s' i) = out
        (let same : r ≡ r' = cc in let s'' : r'.scope ≡ Some c = rw (← same) s in let cd : d ≡ c = cc in rw (← cd) i)

-- the top is kept
pub top_scope : (P : NodeId → Type 0) (G G' : Graph) → ((n : NodeId) (r : Row) → G.row n ≡ Some r → P n) → (b : NodeId)
    → Rebuilt P G G' b → KeepsScope P G G' None
top_scope P G G' live b re = record {
  rows = λ n r e s. elim (re.rows n (live n r e)) [
    | inl h ↦ absurd (not_in n r e s h.0)
    | inr h ↦ h.1 ∙ e
  ];
  outside = λ n p o r e s. elim (re.rows n p) [
    | inl h ↦ absurd (let x = h.1 in cc)
    | inr h ↦ o r (sym h.1 ∙ e) s
  ];
}
  where
    not_in : (n : NodeId) (r : Row) → G.row n ≡ Some r → r.scope ≡ None → Inside G b n → ⊥
    not_in n r e s (direct {r = r'} e' s') = absurd (let same : r ≡ r' = cc in let s'' : r'.scope ≡ None = rw (← same) s in cc)
    not_in n r e s (nested {r = r'} {c = d} e' s' i) = absurd (let same : r ≡ r' = cc in let s'' : r'.scope ≡ None = rw (← same) s in cc)

-- a scope apart from the bind that is built anew is kept
pub apart_scope : (P : NodeId → Type 0) (G G' : Graph) → ((n : NodeId) (r : Row) → G.row n ≡ Some r → P n) → (b : NodeId)
    → Rebuilt P G G' b → (S : Option NodeId) → IsApart G b S
    → KeepsScope P G G' S
apart_scope P G G' live b re None h = top_scope P G G' live b re
apart_scope P G G' live b re (Some c) h = other_scope P G G' live b c re h.0 h.1

-- ---- graphs with the same rows

module _ (G G' : Graph) (same : (n : NodeId) → G'.row n ≡ G.row n) (S : Option NodeId) (caps : List NodeId) where
  in_rows : (n : NodeId) (def : Def) → IsIn G S n def → IsIn G' S n def
  in_rows n def h = (h.0, same n ∙ h.1, h.2, h.3)

  out_rows : (n : NodeId) → Outside G S n → Outside G' S n
  out_rows n o r row sc = o r (sym (same n) ∙ row) sc

  mutual
    -- what a node reads back as hangs on rows alone
    pub unfolds_rows : (t : Term) (n : NodeId) → Unfolds G S caps n t → Unfolds G' S caps n t
    unfolds_rows (Const v) n h = in_rows n _ h
    unfolds_rows (Ref m) n h = (h.0, out_rows n h.1)
    unfolds_rows (Cap i) n h = (h.0, out_rows n h.1)
    unfolds_rows (Map f ts) n h = (h.0, in_rows n _ h.1, unfolds_all_rows ts h.0 h.2)
    unfolds_rows (Fold f v ts) n h = (h.0, in_rows n _ h.1, unfolds_all_rows ts h.0 h.2)
    unfolds_rows (If t a b) n h =
        (h.0, h.1, h.2, in_rows n _ h.3, unfolds_rows t h.0 h.4, unfolds_rows a h.1 h.5, unfolds_rows b h.2 h.6)
    unfolds_rows (Join t) n h = (h.0, in_rows n _ h.1, unfolds_rows t h.0 h.2)
    unfolds_rows (Bind l f ts) n h = (h.0, h.1, in_rows n _ h.2, unfolds_rows l h.0 h.3, unfolds_all_rows ts h.1 h.4)
    unfolds_rows (At t) n h = in_rows n _ h
    unfolds_rows (Steps v ss) n h = in_rows n _ h
    unfolds_rows Now n h = in_rows n _ h

    unfolds_all_rows : (ts : Terms) (ns : List NodeId) → UnfoldsAll G S caps ns ts → UnfoldsAll G' S caps ns ts
    unfolds_all_rows End [] h = tt
    unfolds_all_rows End (n ∷ ns) h = absurd h
    unfolds_all_rows (More t ts) [] h = absurd h
    unfolds_all_rows (More t ts) (n ∷ ns) h = (unfolds_rows t n h.0, unfolds_all_rows ts ns h.1)
