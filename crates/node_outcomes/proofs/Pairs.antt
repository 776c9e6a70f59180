-- What nodes of two points read of the graph.
use Rattle.std.proofs.Common.{◌≡◌, ◌⊎◌, inl, inr, refl, sym, ap, subst, List, Option, None, Some, IsSome}
use Rattle.std.specs.Prelude.{is_some}
use Rattle.inc_value.specs.Choice.{and_then}
use Rattle.inc_value.specs.declared.function.FnRef.{FnRef}
use Rattle.inc_value.specs.declared.node.NodeId.{NodeId}
use Rattle.inc_value.specs.declared.node.Point.{Point}
use Rattle.inc_value.specs.declared.outcome.Outcome.{Outcome}
use Rattle.inc_value.specs.declared.outcome.Outcome.TheVariants.{Val, Invalid}
use Rattle.inc_value.specs.declared.value.Value.{Value}
use Rattle.inc_terms.specs.declared.def.Def as declared
use Rattle.inc_terms.specs.declared.def.Def.TheVariants as form
use Rattle.inc_terms.specs.Code.{def_of}
use Rattle.inc_terms.specs.Depend.{main, subject_of, right_of}
use Rattle.inc_terms.specs.Evaluate.{with_value}
use Rattle.inc_terms.specs.Graph.{Graph, Built, Def, If, Join, Bind}
use Rattle.inc_terms.specs.Local.{own, own_right, see_right}
use Rattle.inc_terms.specs.Term.{Functions}
use Rattle.inc_terms.specs.Work.{taken_by}
use Rattle.point_map.specs.Rows.{Rows}
use Rattle.node_outcomes.specs.Computing.{seen}
use Rattle.node_outcomes.specs.Progress.{Progress}
use Rattle.node_outcomes.proofs.Held.{invalid_chooses_none}

-- a node of two points gives what its right side shows, and no function of it is called
pub record IsPair (def : Def) : Type 0 where
  pub subject : IsSome (subject_of def)
  pub none_taken : (G : Graph) (n : NodeId) → taken_by G n def ≡ None
  pub gives_right : (F : Functions) (G : Graph) (see : Point → Option Outcome) (n : NodeId) → own F G see n def ≡ own_right G see n def

pub if_is_pair : (t a b : NodeId) → IsPair (If t a b)
if_is_pair t a b = record { subject = refl; none_taken = λ G n. refl; gives_right = λ F G see n. refl }

pub join_is_pair : (k : NodeId) → IsPair (Join k)
join_is_pair k = record { subject = refl; none_taken = λ G n. refl; gives_right = λ F G see n. refl }

pub bind_is_pair : (l : NodeId) (f : FnRef) (caps : List NodeId) → IsPair (Bind l f caps)
bind_is_pair l f caps = record { subject = refl; none_taken = λ G n. refl; gives_right = λ F G see n. refl }

pub pair_of : (d : declared.Def) → ((t a b : NodeId) × (d ≡ form.If t a b)) ⊎ ((k : NodeId) × (d ≡ form.Join k))
    ⊎ ((l : NodeId) × (f : FnRef) × (caps : List NodeId) × (d ≡ form.Bind l f caps)) → IsPair (def_of d)
pair_of d (inl h) = subst IsPair (sym (ap def_of h.3)) (if_is_pair h.0 h.1 h.2)
pair_of d (inr (inl h)) = subst IsPair (sym (ap def_of h.1)) (join_is_pair h.0)
pair_of d (inr (inr h)) = subst IsPair (sym (ap def_of h.3)) (bind_is_pair h.0 h.1 h.2)

-- ---- what a right side shows

-- the outcome is what the chosen right side shows: Invalid without one, and where nothing is seen of it
abbrev pub ShowsRight : Rows Progress → Option NodeId → Outcome → Type 0
ShowsRight rows None o = o ≡ Invalid
ShowsRight rows (Some m) o = (seen rows (main m) ≡ Some o) ⊎ ((seen rows (main m) ≡ None) × (o ≡ Invalid))

-- something is seen of it
sees_right : (rows : Rows Progress) (x : Option NodeId) (o : Outcome) → ((m : NodeId) → x ≡ Some m → IsSome (seen rows (main m))) → ShowsRight rows x o
    → see_right (seen rows) x ≡ Some o
sees_right rows None o is_seen shows = ap Some (sym shows)
sees_right rows (Some m) o is_seen (inl e) = e
sees_right rows (Some m) o is_seen (inr h) = absurd (let some = is_seen m refl in let none = ap is_some h.0 in cc)

-- so it is the own function's outcome
pub gives_own_right : (rows : Rows Progress) (G : Graph) (n : NodeId) (def : Def)
    → ((w : Built) → G.built n ≡ Some w → w.outcome ≡ Invalid → w.root ≡ None) → (o : Outcome) (choice : Option Outcome) → IsSome choice
    → ((m : NodeId) (c : Outcome) → choice ≡ Some c → right_of G n def c ≡ Some m → IsSome (seen rows (main m)))
    → ShowsRight rows (and_then choice (λ (c : Outcome). right_of G n def c)) o
    → with_value choice (λ (v : Value). see_right (seen rows) (right_of G n def (Val v))) ≡ Some o
gives_own_right rows G n def rootless o None some is_seen shows = cc
gives_own_right rows G n def rootless o (Some Invalid) some is_seen shows =
    let none : o ≡ Invalid = subst (λ (x : Option NodeId). ShowsRight rows x o) (invalid_chooses_none G n def rootless) shows in
    ap Some (sym none)
gives_own_right rows G n def rootless o (Some (Val v)) some is_seen shows =
    sees_right rows (right_of G n def (Val v)) o (λ m e. is_seen m (Val v) refl e) shows

-- a value that a right side shows
pub record RightShows (rows : Rows Progress) (choice : Option Outcome) (G : Graph) (n : NodeId) (def : Def) (v : Value) : Type 0 where
  pub given : Outcome
  pub node : NodeId
  pub is_given : choice ≡ Some given
  pub is_right : right_of G n def given ≡ Some node
  pub shows : seen rows (main node) ≡ Some (Val v)

-- what shows a value is a right side's
value_of_right : (rows : Rows Progress) (x : Option NodeId) (v : Value) → ShowsRight rows x (Val v)
    → (m : NodeId) × (x ≡ Some m) × (seen rows (main m) ≡ Some (Val v))
value_of_right rows None v shows = cc
value_of_right rows (Some m) v (inl e) = (m, refl, e)
value_of_right rows (Some m) v (inr h) = absurd (let e = h.1 in cc)

pub right_shows : (rows : Rows Progress) (G : Graph) (n : NodeId) (def : Def) (v : Value) (choice : Option Outcome)
    → ShowsRight rows (and_then choice (λ (c : Outcome). right_of G n def c)) (Val v) → RightShows rows choice G n def v
right_shows rows G n def v None shows = cc
right_shows rows G n def v (Some c) shows =
    let m = value_of_right rows (right_of G n def c) v shows in
    record { given = c; node = m.0; is_given = refl; is_right = m.1; shows = m.2 }
