-- A round changes what no node gives.
use Rattle.std.proofs.Common.{◌≡◌, inl, inr, ℕ, ◌∙◌, true, false, Some, ◌≤◌, refl, sym, subst, arith}
use Rattle.inc_value.specs.declared.node.NodeId.{NodeId}
use Rattle.inc_value.specs.Choice.{here, step}
use Rattle.inc_terms.specs.Term.{Functions}
use Rattle.inc_terms.specs.Graph.{Graph, Row}
use Rattle.inc_terms.specs.Within.{Given, Fit}
use Rattle.inc_terms.proofs.Within.{functions_within}
use Rattle.inc_terms.proofs.Rebuild.{same_after, same_before}
use Rattle.stabilize_round.specs.State.{State, Start, Bare, Full, at_point}
use Rattle.stabilize_round.specs.Machine.{Move, step_main, step_change, link, link_new, root, root_new, raise, finish, schedule, cut, rebuild, level}
use Rattle.stabilize_round.specs.Machine.{spend, Moves, Stops, as_it_is, unbuilt, unkept}
use Rattle.stabilize_round.specs.Rebuilding.{Remade, Rebuild}
use Rattle.inc_value.specs.declared.outcome.Outcome.{Outcome}
use Rattle.inc_value.specs.declared.node.Point.{Point}
use Rattle.inc_terms.specs.Depend.{main}
use Rattle.stabilize_round.proofs.Points.{same_or_other, at_other}
use Rattle.stabilize_round.specs.Laws.{GivesAs, GraphStays, Attached, AttachedStays}

same : (F : Functions) (s u t : State) → t ≡ u → GivesAs F s u → GivesAs F s t
same F s u t e h = subst (λ (x : State). GivesAs F s x) (sym e) h

alike : (F : Functions) (s : State) → GivesAs F s s
alike F s = (omega arith, λ n p o. ((λ g. g), (λ g. g)))

move_gives : (F : Functions) (z : Start) (s t : State) → Move F z s t → GivesAs F s t
move_gives F z s t (step_main quiet m e) = same F s _ t e (alike F s)
move_gives F z s t (step_change quiet m e) = same F s _ t e (alike F s)
move_gives F z s t (link m need e) = same F s _ t e (alike F s)
move_gives F z s t (link_new m need k e) = same F s _ t e (alike F s)
move_gives F z s t (root need e) = same F s _ t e (alike F s)
move_gives F z s t (root_new given need k e) = same F s _ t e (alike F s)
move_gives F z s t (raise m e) = same F s _ t e (alike F s)
move_gives F z s t (finish m e) = same F s _ t e (alike F s)
move_gives F z s t (schedule m e) = same F s _ t e (alike F s)
move_gives F z s t (cut d w e) = same F s _ t e (alike F s)
move_gives F z s t (rebuild {b} {now} {m = made} m built count e) = same F s _ t e (
  (let e = m.nodes.given in omega arith),
  λ n p o. (
    (λ g. same_after F (Given s.given) (Fit s.given z.known z.ids)
        (functions_within F z.known z.ids (Given s.given) m.given.laws) s.graph made.graph m.given.names b now m.due m.rebuilt n p o g),
    (λ g. same_before F (Given s.given) (Fit s.given z.known z.ids)
        (functions_within F z.known z.ids (Given s.given) m.given.laws) s.graph made.graph m.given.names b now m.due m.rebuilt n p o g),
  ),
)
move_gives F z s t (level m e) = same F s _ t e (alike F s)
move_gives F z s t (spend u k e) = same F s _ t e (alike F s)

pub move_given : (F : Functions) (z : Start) (s t : State) → Move F z s t → s.given ≤ t.given
move_given F z s t m = (move_gives F z s t m).0

pub moves_give : (F : Functions) (z : Start) (s t : State) → Moves F z s t → GivesAs F s t
moves_give F z s t here = alike F s
moves_give F z s t (step {b = u} m rest) =
    let one = move_gives F z s u m in
    let more = moves_give F z u t rest in
    let a = one.0 in let b = more.0 in (
      omega arith,
      λ n p o.
          let p' : Given u.given n = omega arith in
          ((λ g. (more.1 n p' o).0 ((one.1 n p o).0 g)), (λ g. (one.1 n p o).1 ((more.1 n p' o).1 g))),
    )

-- ---- what else stays

moved : (s u t : State) → t ≡ u → GraphStays s.given u.given s.graph u.graph → GraphStays s.given t.given s.graph t.graph
moved s u t e h = subst (λ (x : State). GraphStays s.given x.given s.graph x.graph) (sym e) h

still : (s : State) → GraphStays s.given s.given s.graph s.graph
still s = record { given = omega arith; clock = refl; frozen = λ n p. refl; lists = λ n p. refl; rows = λ n p. inl refl }

rebuilt_rest : (F : Functions) (z : Start) (s : State) (b : NodeId) (now : Outcome) (made : Remade) → Rebuild F z s b now made
    → GraphStays s.given made.given s.graph made.graph
rebuilt_rest F z s b now made m =
    let re = m.rebuilt in
    record {
      given = (let e = m.nodes.given in omega arith);
      clock = re.clock;
      frozen = re.frozen;
      lists = re.lists;
      rows = λ n p. elim (re.rows n p) [ inl h ↦ inr h.1 | inr h ↦ inl h.1 ];
    }

move_rest : (F : Functions) (z : Start) (s t : State) → Move F z s t → GraphStays s.given t.given s.graph t.graph
move_rest F z s t (step_main quiet m e) = moved s _ t e (still s)
move_rest F z s t (step_change quiet m e) = moved s _ t e (still s)
move_rest F z s t (link m need e) = moved s _ t e (still s)
move_rest F z s t (link_new m need k e) = moved s _ t e (still s)
move_rest F z s t (root need e) = moved s _ t e (still s)
move_rest F z s t (root_new given need k e) = moved s _ t e (still s)
move_rest F z s t (raise m e) = moved s _ t e (still s)
move_rest F z s t (finish m e) = moved s _ t e (still s)
move_rest F z s t (schedule m e) = moved s _ t e (still s)
move_rest F z s t (cut d w e) = moved s _ t e (still s)
move_rest F z s t (rebuild {b} {now} {m = made} m built count e) = moved s _ t e (rebuilt_rest F z s b now made m)
move_rest F z s t (level m e) = moved s _ t e (still s)
move_rest F z s t (spend u k e) = moved s _ t e (still s)

-- what stays and then stays
pub rest_then : {a b c : ℕ} {G H I : Graph} → GraphStays a b G H → GraphStays b c H I → GraphStays a c G I
rest_then {a} {b} {c} {G} {H} {I} one more =
    let x = one.given in let y = more.given in
    let later = λ (n : NodeId) (p : Given a n). let p' : Given b n = omega arith in p' in
    record {
      given = omega arith;
      clock = more.clock ∙ one.clock;
      frozen = λ n p. more.frozen n (later n p) ∙ one.frozen n p;
      lists = λ n p. more.lists n (later n p) ∙ one.lists n p;
      rows = λ n p. elim (more.rows n (later n p)) [
        | inr dead ↦ inr dead
        | inl e ↦ elim (one.rows n p) [ inl e' ↦ inl (e ∙ e') | inr dead ↦ inr (e ∙ dead) ]
      ];
    }

pub moves_rest : (F : Functions) (z : Start) (s t : State) → Moves F z s t → GraphStays s.given t.given s.graph t.graph
moves_rest F z s t here = still s
moves_rest F z s t (step {b = u} m rest) = rest_then (move_rest F z s u m) (moves_rest F z u t rest)

-- ---- mains with all their links

keep : (n : NodeId) (s u t : State) → t ≡ u → Attached u n → Attached t n
keep n s u t e h = subst (λ (x : State). Attached x n) (sym e) h

newly_attached : (s : State) (q : Point) (n : NodeId) → s.needed q ≡ false → Attached s n
    → (at_point q true s.needed (main n) ≡ true) × (at_point q Bare s.stage (main n) ≡ Full) × (r : Row) × (s.graph.row n ≡ Some r)
newly_attached s q n fresh h = elim (same_or_other q (main n)) [
  | inl e ↦ absurd (let x = h.0 in let y : s.needed (main n) ≡ false = subst (λ (y : Point). s.needed y ≡ false) e fresh in cc)
  | inr ne ↦ (at_other q true s.needed (main n) ne ∙ h.0, at_other q Bare s.stage (main n) ne ∙ h.1, h.2, h.3)
]

pub attached_stays : AttachedStays
attached_stays F z s t (step_main quiet m e) not n h = keep n s _ t e h
attached_stays F z s t (step_change quiet m e) not n h = keep n s _ t e h
attached_stays F z s t (link m need e) not n h = keep n s _ t e h
attached_stays F z s t (link_new {q} m need k e) not n h = keep n s _ t e (newly_attached s q n need h)
attached_stays F z s t (root need e) not n h = keep n s _ t e h
attached_stays F z s t (root_new {p} given need k e) not n h = keep n s _ t e (newly_attached s p n need h)
attached_stays F z s t (raise {p} {st} m e) not n h = keep n s _ t e (
  h.0,
  elim (same_or_other p (main n)) [
    | inl is ↦ absurd (m.lower (subst (λ (y : Point). s.stage y ≡ Full) (sym is) h.1))
    | inr ne ↦ at_other p st s.stage (main n) ne ∙ h.1
  ],
  h.2,
  h.3,
)
attached_stays F z s t (finish m e) not n h = keep n s _ t e h
attached_stays F z s t (schedule m e) not n h = keep n s _ t e h
attached_stays F z s t (cut d w e) not n h = absurd (not tt)
attached_stays F z s t (rebuild {m = made} m built count e) not n h = keep n s _ t e (elim (m.rebuilt.rows n (m.given.names.live n h.2 h.3)) [
  | inl dead ↦ absurd (let g = m.gated (main n) dead.0 h.0 in let f = h.1 in cc)
  | inr live ↦ let row = live.1 ∙ h.3 in (h.0, m.beside.stage (main n) h.2 row h.0 ∙ h.1, h.2, row)
])
attached_stays F z s t (level m e) not n h = keep n s _ t e h
attached_stays F z s t (spend u k e) not n h = keep n s _ t e h

-- ---- where a round stops

pub stop_rest : (F : Functions) (z : Start) (s t : State) → Stops F z s t → GraphStays s.given t.given s.graph t.graph
stop_rest F z s t (as_it_is e) = moved s _ t e (still s)
stop_rest F z s t (unbuilt {b} {now} {m} r none empty count e) = moved s _ t e (rebuilt_rest F z s b now m r)
stop_rest F z s t (unkept quiet taken row due count e) = moved s _ t e (still s)
