-- No run of the script of the sum makes a second call.
use Rattle.std.proofs.Common.{◌≡◌, inl, inr, ℕ, zero, suc, ◌≤◌, List, [], ◌∷◌, refl, sym, ◌∙◌, arith}
use Rattle.std.specs.List.{sum_by}
use Rattle.std.specs.Prelude.{codes}
use Rattle.inc_value.specs.declared.function.FnRef.{FnRef}
use Rattle.inc_value.specs.Choice.{Among, NoRepeats, Every}
use Rattle.script_model.specs.Evaluate.{value_at}
use Rattle.script_model.specs.Formula.{Meanings, start}
use Rattle.script_model.specs.Grammar.{Stabilize}
use Rattle.script_model.specs.Need.{Item, Place, Met, from_root, from_held, Visit, visits_at, IsDue, WithinWork}
use Rattle.script_model.specs.Request.{Request, Asks, IsRequest}
use Rattle.script_model.specs.Row.{AddsThreeAndFour, sum_lines, SumIsOneCall}
use Rattle.script_model.specs.Run.{Turn, IsTurn, Chain, MayCall, lines_read, work_of}
use Rattle.script_model.specs.Step.{Moment, Reply, Stable, Refused, Cycle, Height, first_moment}
use Rattle.script_model.proofs.Asked.{is_request_read}
use Rattle.script_model.proofs.Falls.{needed_among}
use Rattle.script_model.proofs.Requests.{one_request}
use Rattle.script_model.proofs.Runs.{only_stabilizes_call, plain_turns_alike}
use Rattle.script_model.proofs.SumRow.{x_line, y_line, o_line, show_line, y_asks, with_x, with_y, observed, moment, items, items_fall, call, sum_runs}

-- ---- the stabilize

module _ (F : Meanings) (add : FnRef) where
  met_among : (i : Item) → Met F start (observed add) i → Among i items
  met_among i (from_root needed) = needed_among F (observed add) items i (items_fall F add) (inl refl, tt) needed
  met_among i (from_held held stands on) = absurd held.was

  visits_of_sum : (v : Visit) (d : ℕ) → Among v (visits_at F (observed add) d (Place 1 [])) → v ≡ call F add
  unfolding value_at
  visits_of_sum v zero r = absurd r
  visits_of_sum v (suc d) (inl e) = e
  visits_of_sum v (suc d) (inr none) = absurd none

  is_the_call : (v : Visit) (d : ℕ) (i : Item) → Among i items → Among v (visits_at F (observed add) d i) → v ≡ call F add
  is_the_call v d i (inl e) r = absurd (rw e at r)
  is_the_call v d i (inr (inl e)) r = visits_of_sum v d (rw e at r)
  is_the_call v d i (inr (inr (inl e))) r = absurd (rw e at r)
  is_the_call v d i (inr (inr (inr (inl e)))) r = absurd (rw e at r)
  is_the_call v d i (inr (inr (inr (inr (inl e))))) r = absurd (rw e at r)
  is_the_call v d i (inr (inr (inr (inr (inr none))))) r = absurd none

  one_cost : (vs : List Visit) → NoRepeats vs → Every (IsDue F start (observed add)) vs → sum_by (λ (v : Visit). v.cost) vs ≤ 1
  one_cost [] distinct due = omega arith
  one_cost (v ∷ []) distinct due = let e = is_the_call v due.0.visit.0 v.item (met_among v.item due.0.met) due.0.visit.1 in rw e (omega arith)
  one_cost (v ∷ w ∷ vs) distinct due =
      let e = is_the_call v due.0.visit.0 v.item (met_among v.item due.0.met) due.0.visit.1 in
      let f = is_the_call w due.1.0.visit.0 w.item (met_among w.item due.1.0.met) due.1.0.visit.1 in
      absurd (distinct.0 (inl (e ∙ sym f)))

  at_most_one : (calls : ℕ) → WithinWork F start (observed add) calls → calls ≤ 1
  at_most_one calls within = let cost = one_cost within.visits within.distinct within.due in let enough = within.enough in omega (arith, cost, enough)

  may_call_one : (replies : List Reply) (calls : ℕ) → MayCall F (moment start (observed add)) replies calls → calls ≤ 1
  may_call_one (Stable k ∷ replies) calls due = at_most_one calls due
  may_call_one (Refused (Cycle targets) ∷ replies) calls due = due
  may_call_one (Refused (Height target) ∷ replies) calls due = due
  may_call_one replies calls due = omega (arith, due)

-- ---- the run

-- a line that asks for something else asks for no stabilize
not_stabilize : (line : List ℕ) (r : Request) → IsRequest line r → (r ≡ Asks Stabilize → ⊥) → IsRequest line (Asks Stabilize) → ⊥
not_stabilize line r asks other is = other (one_request line r (Asks Stabilize) asks is)

abbrev is_no_stabilize : List ℕ → Type 0
is_no_stabilize line = IsRequest line (Asks Stabilize) → ⊥

var_is_none : is_no_stabilize (codes "var x int 3")
var_is_none = not_stabilize (codes "var x int 3") (Asks x_line) (is_request_read (codes "var x int 3")) (λ e. cc)

let_is_none : is_no_stabilize (codes "let y add(x, 4)")
let_is_none = not_stabilize (codes "let y add(x, 4)") (Asks y_line) y_asks (λ e. cc)

observe_is_none : is_no_stabilize (codes "observe o y")
observe_is_none = not_stabilize (codes "observe o y") (Asks o_line) (is_request_read (codes "observe o y")) (λ e. cc)

show_is_none : is_no_stabilize (codes "show o")
show_is_none = not_stabilize (codes "show o") (Asks show_line) (is_request_read (codes "show o")) (λ e. cc)

-- the turn of another run that follows is alike
next_alike : (F : Meanings) (m : Moment) (t u : Turn) → u.before ≡ m → t.before ≡ m → t.line ≡ u.line → is_no_stabilize u.line → IsTurn F t
    → IsTurn F u → t.after ≡ u.after
next_alike F m t u begins begins' line other h k = (plain_turns_alike F t u (begins' ∙ sym begins) line other h k).0

five_turns : (F : Meanings) (add : FnRef) → AddsThreeAndFour F add → (ts : List Turn) (end : Moment) → lines_read ts ≡ sum_lines
    → Chain F first_moment ts end → work_of ts ≤ 1
five_turns F add is [] end lines chain = absurd (cc)
five_turns F add is (a ∷ []) end lines chain = absurd (cc)
five_turns F add is (a ∷ b ∷ []) end lines chain = absurd (cc)
five_turns F add is (a ∷ b ∷ c ∷ []) end lines chain = absurd (cc)
five_turns F add is (a ∷ b ∷ c ∷ d ∷ []) end lines chain = absurd (cc)
five_turns F add is (a ∷ b ∷ c ∷ d ∷ e ∷ []) end lines chain =
    let run = (sum_runs F add is).chain in
    let la : a.line ≡ codes "var x int 3" = cc in
    let lb : b.line ≡ codes "let y add(x, 4)" = cc in
    let lc : c.line ≡ codes "observe o y" = cc in
    let le : e.line ≡ codes "show o" = cc in
    let one : a.after ≡ moment start with_x = next_alike F first_moment a _ refl chain.0 la var_is_none chain.1 run.1 in
    let two : b.after ≡ moment start (with_y add) = next_alike F (moment start with_x) b _ refl (chain.2.0 ∙ one) lb let_is_none chain.2.1 run.2.1 in
    let three : c.after ≡ moment start (observed add) =
    next_alike F (moment start (with_y add)) c _ refl (chain.2.2.0 ∙ two) lc observe_is_none chain.2.2.1 run.2.2.1 in
    let first : a.work ≡ 0 = only_stabilizes_call F a (rw la var_is_none) chain.1 in
    let second : b.work ≡ 0 = only_stabilizes_call F b (rw lb let_is_none) chain.2.1 in
    let third : c.work ≡ 0 = only_stabilizes_call F c (rw lc observe_is_none) chain.2.2.1 in
    let begins : d.before ≡ moment start (observed add) = chain.2.2.2.0 ∙ three in
    let few : d.work ≤ 1 = may_call_one F add d.replies d.work (rw begins at chain.2.2.2.1.due) in
    let last : e.work ≡ 0 = only_stabilizes_call F e (rw le show_is_none) chain.2.2.2.2.1 in
    omega arith
five_turns F add is (a ∷ b ∷ c ∷ d ∷ e ∷ f ∷ ts) end lines chain = absurd (cc)

pub sum_is_one_call : SumIsOneCall
sum_is_one_call F add is turns run = five_turns F add is turns run.end run.reads run.chain
