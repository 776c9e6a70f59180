-- What a bind's root reads back as stays while the nodes of its scope do.
use Rattle.std.proofs.Common.{◌≡◌, ◌⊎◌, inl, inr, List, [], ◌∷◌, Some, sym, ◌∙◌}
use Rattle.inc_value.specs.declared.node.NodeId.{NodeId}
use Rattle.inc_value.specs.declared.outcome.Outcome.{Outcome}
use Rattle.inc_value.specs.declared.value.Value.{Value}
use Rattle.inc_terms.specs.Term.{Functions, Term, Terms, Const, Ref, Cap, Map, Fold, If, Join, Bind, At, Steps, Now, End, More}
use Rattle.inc_terms.specs.Graph as graph
use Rattle.inc_terms.specs.Graph.{Graph, Row, Def}
use Rattle.inc_terms.specs.Local.{IsBuilt}
use Rattle.inc_terms.specs.Unfold.{IsIn, Outside, Unfolds, UnfoldsAll}

-- a variable
abbrev pub IsVar : Def → Type 0
IsVar def = (v : Value) × (def ≡ graph.Var v)

module _ (G G' : Graph) (b : NodeId) (inside : (n : NodeId) (r : Row) → G.row n ≡ Some r → r.scope ≡ Some b → (G'.row n ≡ Some r) ⊎ IsVar r.def)
    (outside : (n : NodeId) (r : Row) → G'.row n ≡ Some r → r.scope ≡ Some b → (was : Row) × (G.row n ≡ Some was) × (was.scope ≡ Some b)) where
  -- a node that isn't a variable is defined as it was
  still_in : (n : NodeId) (def : Def) → (IsVar def → ⊥) → IsIn G (Some b) n def → IsIn G' (Some b) n def
  still_in n def other h = elim (inside n h.0 h.1 h.2) [
    | inl now ↦ (h.0, now, h.2, h.3)
    | inr var ↦ absurd (other (var.0, sym h.3 ∙ var.1))
  ]

  still_out : (n : NodeId) → Outside G (Some b) n → Outside G' (Some b) n
  still_out n out r row scope = let was = outside n r row scope in out was.0 was.1 was.2

  module _ (caps : List NodeId) where
    mutual
      pub reads_still : (t : Term) (n : NodeId) → Unfolds G (Some b) caps n t → Unfolds G' (Some b) caps n t
      reads_still (Const v) n h = still_in n _ (λ x. let e = x.1 in cc) h
      reads_still (Ref m) n h = (h.0, still_out n h.1)
      reads_still (Cap i) n h = (h.0, still_out n h.1)
      reads_still (Map f ts) n h = (h.0, still_in n _ (λ x. let e = x.1 in cc) h.1, all_still ts h.0 h.2)
      reads_still (Fold f v ts) n h = (h.0, still_in n _ (λ x. let e = x.1 in cc) h.1, all_still ts h.0 h.2)
      reads_still (If t x y) n h =
          (h.0, h.1, h.2, still_in n _ (λ x. let e = x.1 in cc) h.3, reads_still t h.0 h.4, reads_still x h.1 h.5, reads_still y h.2 h.6)
      reads_still (Join t) n h = (h.0, still_in n _ (λ x. let e = x.1 in cc) h.1, reads_still t h.0 h.2)
      reads_still (Bind l f ts) n h = (h.0, h.1, still_in n _ (λ x. let e = x.1 in cc) h.2, reads_still l h.0 h.3, all_still ts h.1 h.4)
      reads_still (At t) n h = still_in n _ (λ x. let e = x.1 in cc) h
      reads_still (Steps v steps) n h = still_in n _ (λ x. let e = x.1 in cc) h
      reads_still Now n h = still_in n _ (λ x. let e = x.1 in cc) h

      all_still : (ts : Terms) (ns : List NodeId) → UnfoldsAll G (Some b) caps ns ts → UnfoldsAll G' (Some b) caps ns ts
      all_still End [] h = tt
      all_still End (n ∷ ns) h = absurd h
      all_still (More t ts) [] h = absurd h
      all_still (More t ts) (n ∷ ns) h = (reads_still t n h.0, all_still ts ns h.1)

  -- a bind is built for its outcome still
  pub built_still : (F : Functions) (def : Def) (o : Outcome) → G'.built b ≡ G.built b → IsBuilt F G b def o → IsBuilt F G' b def o
  built_still F (graph.Bind l f caps) o same h = (
    h.0,
    same ∙ h.1,
    h.2,
    record {
      unfolds = λ v is. let x = h.3.unfolds v is in (x.0, x.1, reads_still caps (F.term f v) x.0 x.2);
      rootless = h.3.rootless;
    },
  )
  built_still F _ o same h = tt
