use Rattle.std.proofs.Common.{◌≡◌, ◌<◌, ◌+◌, ◌^◌, Option, None, Some, ℕ, subst, arith}
use Rattle.std.specs.Prelude.{MatchOption}
use Rattle.formula_lang.specs.CommandView.{body_view}
use Rattle.script_model.specs.Formula.{places_of_body}
use Rattle.session.proofs.Carried.{carried_done, carried_nothing, carried_refused, carried_unmade}
use Rattle.session.proofs.Failing.{none_of}
use Rattle.session.proofs.Following.{followed_declare, refused_declare}
use Rattle.session.proofs.answer.declare.Goals as goal

-- what the room tells
no_room : (r : Option ℕ) (need room : ℕ) → MatchOption r (room < need) (λ left. left + need ≡ room) → r ≡ None → room < need
no_room None need room h is = h
no_room (Some left) need room h is = absurd (cc)

left_room : (r : Option ℕ) (need room left : ℕ) → MatchOption r (room < need) (λ left. left + need ≡ room) → r ≡ Some left → left + need ≡ room
left_room None need room left h is = absurd (cc)
left_room (Some x) need room left h is = let same : x ≡ left = cc in subst (λ n. n + need ≡ room) same h

pub returns-in_default : goal.returns-in_default
returns-in_default g c =
    let need = places_of_body (body_view c.args.body.now) in
    let short = no_room c.room_behind_body.result need c.room.result c.room_behind_body.ensures
    (none_of c.room_behind_body.result c.in_default.not-Some) in
    carried_refused _ _ _ _ _ _ _ _ _ 19 _ _ (rw c.number.ensures at c.refuse.ensures) (λ m st written.
    refused_declare _ c.args.script.now.kept m st c.requires.unbroken c.args.name.now c.args.ty (body_view c.args.body.now) _ _ _
    (omega (arith, short, c.room.ensures)) written)

pub declare-requires-clause-room : goal.declare-requires-clause-room
declare-requires-clause-room g c =
    let need = places_of_body (body_view c.args.body.now) in
    let enough = left_room c.room_behind_body.result need c.room.result c.in-Some.room c.room_behind_body.ensures c.in-Some.is in
    omega (arith, enough, c.room.ensures)

pub returns-in-Ok-declare : goal.returns-in-Ok-declare
returns-in-Ok-declare g c =
    let need = places_of_body (body_view c.args.body.now) in
    let enough = left_room c.room_behind_body.result need c.room.result c.in-Some.room c.room_behind_body.ensures c.in-Some.is in
    carried_done _ _ _ _ _ _ (2 ^ 20) 0 (omega arith) (omega arith) _ _ _ _ c.declare.ensures.beside c.requires.unbroken (λ m st.
    followed_declare _ c.args.script.now.kept m st c.requires.unbroken c.args.name.now c.args.ty (body_view c.args.body.now)
    c.declare.new.self.kept _ _ _ (omega (arith, enough, c.room.ensures))
    (c.in-Ok-declare.ensures.declared m st.matches) c.in-Ok.ensures.ok)

pub returns-in-Err-declare : goal.returns-in-Err-declare
returns-in-Err-declare g c = carried_unmade _ _ _ _ _ _ (2 ^ 20) 0 (omega arith) (omega arith) _ _ _ _ _ c.declare.ensures.beside c.requires.unbroken
    c.in-Err-declare.ensures.kept (_, c.in-Ok.ensures.ok)

pub returns-in-Err : goal.returns-in-Err
returns-in-Err g c = carried_nothing _ _ _ _ _ _ _ _ _ _ c.in-Err.ensures.err
