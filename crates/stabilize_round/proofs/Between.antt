-- The states between steps.
use Rattle.std.proofs.Common.{◌≡◌, ◌⊎◌, inl, inr, ℕ, suc, ◌<◌, Bool, true, List, Some, refl, sym, subst, ap, arith}
use Rattle.inc_value.specs.declared.node.NodeId.{NodeId}
use Rattle.inc_value.specs.declared.node.Point.{Point}
use Rattle.inc_value.specs.Choice.{Among, here, step}
use Rattle.inc_terms.specs.Term.{Functions}
use Rattle.inc_terms.specs.Graph.{Row}
use Rattle.inc_terms.specs.Evaluate.{Stands}
use Rattle.inc_terms.specs.Rebuild.{Inside, direct, nested}
use Rattle.inc_terms.specs.Within.{Given, Fit}
use Rattle.inc_terms.specs.Depend.{Depends, fixed, change, fixed_reads}
use Rattle.inc_terms.specs.Local.{Agrees}
use Rattle.inc_terms.specs.Plan.{gate_of, plan}
use Rattle.inc_terms.proofs.Within.{functions_within}
use Rattle.inc_terms.proofs.Depending.{no_stand}
use Rattle.inc_terms.proofs.Plan.{among_left, among_right, among_parts, plan_depends}
use Rattle.stabilize_round.specs.State.{State, Start, Stage, Bare, Gated, Static, Full, Linked, live_plan, planned, at_point}
use Rattle.stabilize_round.specs.Invariant.{Invariant, IsDone}
use Rattle.stabilize_round.specs.Wire.{linked, dropped, Drop, Sweep, IsConfirmed}
use Rattle.stabilize_round.specs.Machine.{Move, step_main, step_change, link, link_new, root, root_new, raise, finish, schedule, cut, rebuild}
use Rattle.stabilize_round.specs.Machine.{level, spend, Moves}
use Rattle.stabilize_round.specs.StepLaws.{RoundIsMoves, RoundEnds, Waiting, for_gate, for_change, NeededAreFresh, LowAreFinal, TakenIsDue}
use Rattle.stabilize_round.specs.StepLaws.{SettledReadsLive, NewLinksConfirmed}
use Rattle.stabilize_round.proofs.Points.{same_or_other, at_same, at_other, count_among}
use Rattle.stabilize_round.proofs.Parts.{bool_cases}
use Rattle.stabilize_round.proofs.Low.{Low, low_points}
use Rattle.stabilize_round.proofs.Rebuilding.{dep_grows}
use Rattle.stabilize_round.proofs.Machine.{move_keeps, moves_keep, move_settled, moves_settled}
use Rattle.stabilize_round.proofs.Ready.{is_due}
use Rattle.stabilize_round.proofs.Steps.{round_moves, round_quiet}
use Rattle.stabilize_round.proofs.Meanings.{round_keeps, round_is_right}

pub round_is_moves : RoundIsMoves
round_is_moves F z s t r = (round_moves F z s t r, round_quiet F z s t r)

pub round_ends : RoundEnds
round_ends F z s t observed r are empty =
    round_is_right F z s t observed r.entry (round_moves F z s t r) are (round_quiet F z s t r) empty

-- ---- what is needed

pub needed_are_fresh : NeededAreFresh
needed_are_fresh F z s t entry run quiet p r row need = elim (inv.fresh p r row need) [
  | inl h ↦ inl h
  | inr (inl h) ↦ by_stage (t.stage p) refl (inv.settled.done p h).agrees
  | inr (inr h) ↦ inr (inl (h.0, h.1))
]
  where
    inv : Invariant F z t
    inv = round_keeps F z s t entry run

    by_stage : (st : Stage) → t.stage p ≡ st → Agrees F t.graph t.out p
        → (t.heap p ≡ true) ⊎ ((t.stage p ≡ Full) × Agrees F t.graph t.out p) ⊎ Waiting t p
    by_stage Bare e a = absurd (let x = inv.rows.bare p need e in let y = quiet p in cc)
    by_stage Gated e a = let w = inv.waits.gated p r row need (quiet p) e in inr (inr (for_gate e row w.1 w.2 w.3))
    by_stage Static e a = let w = inv.waits.static p r row need (quiet p) e in inr (inr (for_change e w.3))
    by_stage Full e a = inr (inl (e, a))

pub low_are_final : LowAreFinal
low_are_final F z s t entry run quiet p need lower = (low.full, low.exact)
  where
    low : Low F z t (round_keeps F z s t entry run) quiet p
    low = low_points F z t (round_keeps F z s t entry run) quiet (suc (t.height p)) (λ q h. let k = lower q h in omega arith) p (omega arith) need

pub taken_is_due : TakenIsDue
taken_is_due F z s t entry run quiet b taken r l f captures row def now seen changed =
    is_due F z t (round_keeps F z s t entry run) quiet b taken r l f captures row def now seen changed

-- ---- what settled points are linked to

-- a settled point depends on what it is linked to
stage_plan : (F : Functions) (t : State) (p q : Point) (r : Row) (st : Stage) → Among q (live_plan t.graph t.out p r st)
    → Among q (plan t.graph t.out p r)
stage_plan F t p q r Bare a = absurd a
stage_plan F t p q r Gated a = among_left q (gate_of r.scope) _ a
stage_plan F t p q r Static a = elim (among_parts q (gate_of r.scope) _ a) [
  | inl g ↦ among_left q (gate_of r.scope) _ g
  | inr f ↦ among_right q (gate_of r.scope) _ (among_left q (fixed_reads t.graph p.node r.def p.part) _ f)
]
stage_plan F t p q r Full a = a

done_depends : (F : Functions) (z : Start) (t : State) (p : Point) (d : IsDone F t.graph t.out t.died t.last p) (q : Point)
    → Among q (plan t.graph t.out p d.row)
    → Depends F t.graph t.died p q
done_depends F z t p d q among =
    let st : Stands F t.graph d.row.scope = (d.exact d.row d.is_row).0 in
    plan_depends F t.graph t.out t.died p q d.row d.is_row st
    (λ part k sub. ((d.below (change p.node) (fixed d.is_row st (rw (part, sub) (inl refl)))) d.row d.is_row).1 k sub) among

linked_depends : (F : Functions) (z : Start) (t : State) → Invariant F z t → (p q : Point) → t.settled p ≡ true → Linked t p q
    → Depends F t.graph t.died p q
linked_depends F z t inv p q st l =
    let d = inv.settled.done p st in
    let e = inv.rows.links p q (inv.web.from p q l) in
    let a : Among q (planned t p) = count_among q (planned t p) (omega arith) in
    done_depends F z t p d q (stage_plan F t p q d.row (t.stage p) (rw d.is_row at a))

still_depends : (F : Functions) (s u t : State) → t ≡ u → (p q : Point) → Depends F u.graph u.died p q → Depends F t.graph t.died p q
still_depends F s u t e p q d = subst (λ (x : State). Depends F x.graph x.died p q) (sym e) d

move_depends : (F : Functions) (z : Start) (s t : State) → Invariant F z s → Move F z s t → (p q : Point) → s.settled p ≡ true
    → Depends F s.graph s.died p q → Depends F t.graph t.died p q
move_depends F z s t inv (step_main quiet m e) p q st d = still_depends F s _ t e p q d
move_depends F z s t inv (step_change quiet m e) p q st d = still_depends F s _ t e p q d
move_depends F z s t inv (link m need e) p q st d = still_depends F s _ t e p q d
move_depends F z s t inv (link_new m need k e) p q st d = still_depends F s _ t e p q d
move_depends F z s t inv (root need e) p q st d = still_depends F s _ t e p q d
move_depends F z s t inv (root_new given need k e) p q st d = still_depends F s _ t e p q d
move_depends F z s t inv (raise m e) p q st d = still_depends F s _ t e p q d
move_depends F z s t inv (finish m e) p q st d = still_depends F s _ t e p q d
move_depends F z s t inv (schedule m e) p q st d = still_depends F s _ t e p q d
move_depends F z s t inv (cut c w e) p q st d = still_depends F s _ t e p q d
move_depends F z s t inv (rebuild {b} {now} {m} r made count e) p q st d =
    let k = inv.settled.done p st in
    still_depends F s _ t e p q (dep_grows F z s inv b now m r p q (r.given.names.live p.node k.row k.is_row) d)
move_depends F z s t inv (level m e) p q st d = still_depends F s _ t e p q d
move_depends F z s t inv (spend u k e) p q st d = still_depends F s _ t e p q d

moves_depend : (F : Functions) (z : Start) (s t : State) → Invariant F z s → Moves F z s t → (p q : Point) → s.settled p ≡ true
    → Depends F s.graph s.died p q → Depends F t.graph t.died p q
moves_depend F z s t inv here p q st d = d
moves_depend F z s t inv (step {b = u} m rest) p q st d =
    moves_depend F z u t (move_keeps F z s u m inv) rest p q (move_settled F z s u m p st) (move_depends F z s u inv m p q st d)

pub settled_reads_live : SettledReadsLive
settled_reads_live F z s t u entry run p q st l on b now m move inside =
    let inv = round_keeps F z s t entry run in
    let there = moves_keep F z t u on inv in
    let d = moves_depend F z t u inv on p q st (linked_depends F z t inv p q st l) in
    let done = there.settled.done p (moves_settled F z t u on p st) in
    let row = lives u.graph b q.node inside in
    let fine = functions_within F z.known z.ids (Given u.given) move.given.laws in
    no_stand F (Given u.given) (Fit u.given z.known z.ids) fine u.graph m.graph move.given.names b now move.due move.rebuilt q.node row.0
    inside row.1 (done.below q d row.0 row.1).0
  where
    lives : (G : Rattle.inc_terms.specs.Graph.Graph) (b n : NodeId) → Inside G b n → (r : Row) × (G.row n ≡ Some r)
    lives G b n (direct {r} e s) = (r, e)
    lives G b n (nested {r} e s i) = (r, e)

-- ---- new links

pub link_back : (s : State) (p q : Point) (rest : List Point) (height' : Point → ℕ) (a b : Point) → Linked (linked s p q rest height') a b
    → Linked s a b ⊎ ((p ≡ a) × (q ≡ b))
link_back s p q rest height' a b l = elim (same_or_other p a) [
  | inr ne ↦ let x = ap (λ (f : Point → ℕ). f b) (at_other p (at_point q (suc (s.links p q)) (s.links p)) s.links a ne) in inl (omega arith)
  | inl e ↦ elim (same_or_other q b) [
    | inl e' ↦ inr (e, e')
    | inr ne ↦
        let x = ap (λ (f : Point → ℕ). f b) (at_same p (at_point q (suc (s.links p q)) (s.links p)) s.links) in
        let y = at_other q (suc (s.links p q)) (s.links p) b ne in
        let l' : Linked (linked s p q rest height') p b = subst (λ (y : Point). Linked (linked s p q rest height') y b) (sym e) l in
        inl (subst (λ (y : Point). Linked s y b) e (omega arith))
  ]
]

cut_back : (s : State) (p : Point) (r : Row) (st : Stage) (row' : Point → ℕ) → Drop s p r st row'
    → (needed' : Point → Bool) (links' : Point → Point → ℕ) (heap' : Point → Bool)
    (owed' : Point → List Point) → Sweep (dropped s p st row') needed' links' heap' owed' → (a b : Point) → 0 < links' a b → Linked s a b
cut_back s p r st row' drop needed' links' heap' owed' sweep a b l = elim (bool_cases (needed' a)) [
  | inr e ↦ absurd (let k = sweep.gone a b e in omega arith)
  | inl e ↦ let k = sweep.kept a b e in elim (same_or_other p a) [
    | inr ne ↦ let x = ap (λ (f : Point → ℕ). f b) (at_other p row' s.links a ne) in omega arith
    | inl same ↦
        let x = ap (λ (f : Point → ℕ). f b) (at_same p row' s.links) in
        let l' : 0 < at_point p row' s.links p b = subst (λ (y : Point). 0 < at_point p row' s.links y b) (sym same) (omega arith) in
        subst (λ (y : Point). Linked s y b) same (drop.fewer b (omega arith))
  ]
]

no_link : (s u t : State) → t ≡ u → (p q : Point) → ((k : Linked u p q) → Linked s p q) → Linked t p q → (Linked s p q → ⊥) → IsConfirmed s p q
no_link s u t e p q back now before = absurd (before (back (subst (λ (x : State). Linked x p q) e now)))

by_link : (s t : State) (a b : Point) (p q : Point) → (Linked t p q → Linked s p q ⊎ ((a ≡ p) × (b ≡ q))) → IsConfirmed s a b → Linked t p q
    → (Linked s p q → ⊥) → IsConfirmed s p q
by_link s t a b p q back yes_ now before = elim (back now) [
  | inl l ↦ absurd (before l)
  | inr is ↦ subst (λ (y : Point). IsConfirmed s p y) is.1 (subst (λ (y : Point). IsConfirmed s y b) is.0 yes_)
]

pub new_links_confirmed : NewLinksConfirmed
new_links_confirmed F z s t (step_main quiet m e) p q = no_link s _ t e p q (λ l. l)
new_links_confirmed F z s t (step_change quiet m e) p q = no_link s _ t e p q (λ l. l)
new_links_confirmed F z s t (link {p = a} {q = b} {rest} {height'} m need e) p q =
    by_link s t a b p q (λ l. link_back s a b rest height' p q (subst (λ (x : State). Linked x p q) e l)) m.confirmed
new_links_confirmed F z s t (link_new {p = a} {q = b} {rest} {height'} m need k e) p q =
    by_link s t a b p q (λ l. link_back s a b rest height' p q (subst (λ (x : State). Linked x p q) e l)) m.confirmed
new_links_confirmed F z s t (root need e) p q = no_link s _ t e p q (λ l. l)
new_links_confirmed F z s t (root_new given need k e) p q = no_link s _ t e p q (λ l. l)
new_links_confirmed F z s t (raise m e) p q = no_link s _ t e p q (λ l. l)
new_links_confirmed F z s t (finish m e) p q = no_link s _ t e p q (λ l. l)
new_links_confirmed F z s t (schedule m e) p q = no_link s _ t e p q (λ l. l)
new_links_confirmed F z s t (cut {p = a} {r} {st} {row'} {needed'} {links'} {heap'} {owed'} d w e) p q =
    no_link s _ t e p q (λ l. cut_back s a r st row' d needed' links' heap' owed' w p q l)
new_links_confirmed F z s t (rebuild r made count e) p q = no_link s _ t e p q (λ l. l)
new_links_confirmed F z s t (level m e) p q = no_link s _ t e p q (λ l. l)
new_links_confirmed F z s t (spend u k e) p q = no_link s _ t e p q (λ l. l)
