-- Every line keeps the states valid.
use Rattle.std.proofs.Common.{◌≡◌, ℕ, zero, suc, ◌+◌, ◌<◌, ◌^◌, true, false, not, cond, List, [], ◌∷◌, length, slice_get, Option, None, Some, refl, sym, subst, arith}
use Rattle.std.specs.Prelude as std
use Rattle.std.specs.Prelude.{nat_le, nat_eq, unwrap_or}
use Rattle.std.specs.List.{list_any}
use Rattle.std.proofs.lemmas.Bool.{ltb-false, leb-false, ltb-true}
use Rattle.inc_value.specs.declared.function.FnRef.{FnRef}
use Rattle.inc_value.specs.declared.ty.Ty.TheVariants as ty
use Rattle.inc_value.specs.declared.ty.Ty.{Ty}
use Rattle.inc_value.proofs.SameTypes.{types_true}
use Rattle.inc_value.specs.Ty.{same_types}
use Rattle.script_model.specs.Check as check
use Rattle.script_model.specs.Check.{Kind, Command, Declared, TypedBody, TypedFormula, Reason, Declare, Assign, Link, Unlink, Stale, Take, Observe, Unobserve, Watch, Show, Advance, Stabilize, NotVariable, NotBind, TimeTooLarge, TimesNotRising, SpanIsZero, BackInTime, TooManyLinks, TooManyPlaces, find_declared, kind_of, is_variable, is_bind, is_against, literal_of_type, typed, typed_top, expert_of, element_of, link_of, command_of, names_of, kind_of_body, first_that, body_as, where_same}
use Rattle.inc_value.specs.Choice.{and_then, Every}
use Rattle.script_model.specs.Values.{Value}
use Rattle.script_model.specs.Formula as model
use Rattle.script_model.specs.Formula.{Formula, Body, Entry, State, Meanings, start, entry_at, places_of, places_of_body, links_of, links_at, nothing_kept}
use Rattle.script_model.specs.Grammar as grammar
use Rattle.script_model.specs.Grammar.{Line, Tree, Time}
use Rattle.script_model.specs.Literals.{Literal}
use Rattle.script_model.specs.Laws.{ValidMoment, StartIsValid, StepsKeepValidity, LinesKeepValidity, HaltsKeepValidity, RunsAreValid}
use Rattle.script_model.specs.Request.{Request, TooLong, Blank, Malformed, TooDeep, Asks, IsRequest}
use Rattle.script_model.specs.Run.{Turn, Chain, unchanged, accepted, broken}
use Rattle.script_model.specs.Step.{Moment, Reply, Stable, first_moment, Stabilizes, settles, by_cycle, by_height, Follows, Answers, allowed, verdict_for, verdict_of, holds, order, is_barred, effect}
use Rattle.script_model.specs.Valid.{NameHasType, HasType, BuiltFits, BodyHasType, Valid, KeepToTypes}
use Rattle.script_model.proofs.Proper.{ProperLine, ProperLiteral, ProperTree, ProperTime, line_proper}
use Rattle.script_model.proofs.Typing.{then_some, cond_some, same_some, some_is, either_false, none_first, not_false, get-declared, found_has, literal_of_has, folds_over, formula_has}
use Rattle.script_model.proofs.Effects.{plain_declares_valid}
use Rattle.script_model.proofs.Commands.{assigns_valid, links_valid, unlinks_valid, stales_valid, takes_valid, observes_valid, unobserves_valid, watches_valid, advances_valid}
use Rattle.script_model.proofs.Settling.{settles_valid}

-- ---- no reason stands against a line

pub none_at : (test : Reason → std.Bool) (rs : List Reason) → first_that test rs ≡ None → (k : ℕ) (r : Reason) → slice_get rs k ≡ Some r → test r ≡ false
none_at test [] none k r at = absurd (cc)
none_at test (x ∷ rs) none k r at = go (test x) refl none k at (none_at test rs)
  where
    go : (b : std.Bool) → test x ≡ b → cond b (Some x) (first_that test rs) ≡ None → (k : ℕ) → slice_get (x ∷ rs) k ≡ Some r
        → (first_that test rs ≡ None → (j : ℕ) (q : Reason) → slice_get rs j ≡ Some q → test q ≡ false) → test r ≡ false
    go true is none k at rest = absurd (cc)
    go false is none zero at rest = let same = some_is x r at in rw (← same) is
    go false is none (suc j) at rest = rest none j r at

-- of the reasons that validity rests on
record Unopposed (F : Meanings) (s : State) (l : Line) (c : Command) : Type 0 where
  variable : is_against F (names_of s) l NotVariable ≡ false
  bind : is_against F (names_of s) l NotBind ≡ false
  times : is_against F (names_of s) l TimeTooLarge ≡ false
  rising : is_against F (names_of s) l TimesNotRising ≡ false
  spans : is_against F (names_of s) l SpanIsZero ≡ false
  forward : is_against F (names_of s) l BackInTime ≡ false
  links : is_barred s c TooManyLinks ≡ false
  places : is_barred s c TooManyPlaces ≡ false

unopposed : (F : Meanings) (m : Moment) (l : Line) (c : Command) → command_of F (names_of m.present) l ≡ Some c
    → first_that (holds F m l) order ≡ None → Unopposed F m.present l c
unopposed F m l c is none = record {
  variable = (either_false _ _ (none_at (holds F m l) order none 7 NotVariable refl)).0;
  bind = (either_false _ _ (none_at (holds F m l) order none 8 NotBind refl)).0;
  times = (either_false _ _ (none_at (holds F m l) order none 11 TimeTooLarge refl)).0;
  rising = (either_false _ _ (none_at (holds F m l) order none 12 TimesNotRising refl)).0;
  spans = (either_false _ _ (none_at (holds F m l) order none 13 SpanIsZero refl)).0;
  forward = (either_false _ _ (none_at (holds F m l) order none 14 BackInTime refl)).0;
  links = rw is at (none_at (holds F m l) order none 18 TooManyLinks refl);
  places = rw is at (none_at (holds F m l) order none 19 TooManyPlaces refl);
}

module _ (F : Meanings) (s : State) (valid : Valid F s) where
  -- where the next declaration will stand
  abbrev here : ℕ
  here = length s.entries

  -- ---- what a `let` and an expert declare

  -- a body with its type, which is no grab
  record MayStand (t : TypedBody) : Type 0 where
    typed : BodyHasType F s here t.body t.ty
    plain : (bind : ℕ) (v : Value) → t.body ≡ model.Grab bind v true → ⊥

  stand_as : (body : Body) (u : Ty) (t : TypedBody) → MayStand (record { body = body; ty = u }) → body_as body u ≡ Some t → MayStand t
  stand_as body u t may e = subst MayStand (some_is (record { body = body; ty = u }) t e) may

  nothing_built : (f : Formula) → BuiltFits F s here f nothing_kept
  nothing_built (model.Bind left body) = λ o is. absurd (cc)
  nothing_built f = refl

  plain_stands : (tree : Tree) (t : TypedBody) → ProperTree tree → list_any check.has_falling_times (check.trees_in tree) ≡ false
      → and_then (typed F (names_of s) [] tree) (λ f. body_as (model.Computed f.formula nothing_kept) f.ty) ≡ Some t → MayStand t
  plain_stands tree t proper rise e =
      let f = then_some (typed F (names_of s) [] tree) _ t e in
      let has = formula_has F s valid [] tree f.0 proper rise f.1 in
      stand_as (model.Computed f.0.formula nothing_kept) f.0.ty t
      (record { typed = (has, nothing_built f.0.formula); plain = λ bind v is. absurd (cc) }) f.2

  frozen_stands : (c : TypedFormula) (predicate : List ℕ) (f : FnRef) (t : TypedBody) → F.named predicate ≡ Some f
      → HasType F s here [] c.formula c.ty → check.frozen_when c f ≡ Some t → MayStand t
  frozen_stands c predicate f t named has e =
      let frozen = body_as (model.Freeze c.formula f None) c.ty in
      let takes = cond_some (same_types f.sig.takes (c.ty ∷ [])) (where_same f.sig.gives ty.Bool frozen) t e in
      let gives = same_some f.sig.gives ty.Bool frozen t takes.1 in
      stand_as (model.Freeze c.formula f None) c.ty t (record {
        typed = (has, (predicate, named), types_true f.sig.takes (c.ty ∷ []) takes.0, gives.0, λ v is. absurd (cc));
        plain = λ bind v is. absurd (cc);
      }) gives.1

  positive : (n : ℕ) → nat_eq n 0 ≡ false → 0 < n
  positive zero other = absurd (cc)
  positive (suc n) other = omega arith

  clocks_stand : (name : List ℕ) (span : Time) (t : TypedBody) (c : Command)
      → Unopposed F s (grammar.Let name (grammar.Every span)) c → typed_top F (names_of s) (grammar.Every span) ≡ Some t → MayStand t
  clocks_stand name None t c free e = let no = free.times in absurd (cc)
  clocks_stand name (Some span) t c free e =
      let more = positive span (either_false (nat_eq span 0) false free.spans).0 in
      stand_as (model.Every s.now span) ty.Int t (record { typed = (refl, more, omega arith); plain = λ bind v is. absurd (cc) }) e

  let_stands : (name : List ℕ) (tree : Tree) (t : TypedBody) (c : Command) → ProperTree tree
      → Unopposed F s (grammar.Let name tree) c → typed_top F (names_of s) tree ≡ Some t → MayStand t
  let_stands name (grammar.Freeze child predicate) t c proper free e =
      let f = then_some (typed F (names_of s) [] child) _ t e in
      let g = then_some (F.named predicate) _ t f.2 in
      frozen_stands f.0 predicate g.0 t g.1 (formula_has F s valid [] child f.0 proper free.rising f.1) g.2
  let_stands name (grammar.After span) t c proper free e =
      stand_as (model.After (s.now + unwrap_or span 0)) ty.Bool t (record { typed = refl; plain = λ bind v is. absurd (cc) }) e
  let_stands name (grammar.Every span) t c proper free e = clocks_stand name span t c free e
  let_stands name tree t c proper free e = plain_stands tree t proper free.rising e

  expert_stands : (function : List ℕ) (f : FnRef) (first : Literal) (t : TypedBody) → F.named function ≡ Some f
      → ProperLiteral first → expert_of (names_of s) first f ≡ Some t → MayStand t
  expert_stands function f first t named proper e =
      let element = then_some (element_of f f.sig.takes) _ t e in
      let begins = then_some (literal_of_type (names_of s) f.sig.gives first) _ t element.2 in
      stand_as (model.Expert f begins.0 [] 0) f.sig.gives t (record {
        typed = (
          element.0,
          (function, named),
          folds_over F s valid f f.sig.takes element.0 refl element.1,
          literal_of_has F s valid f.sig.gives first begins.0 proper begins.1,
          tt,
          omega arith,
        );
        plain = λ bind v is. absurd (cc);
      }) begins.2

  declare_valid : (name : List ℕ) (t : TypedBody) → MayStand t → is_barred s (Declare name t.ty t.body) TooManyPlaces ≡ false
      → Valid F (effect s (Declare name t.ty t.body))
  declare_valid name t may few =
      plain_declares_valid F s name t.ty t.body valid may.plain may.typed (ltb-false 1048575 (places_of s + places_of_body t.body) few)

  -- ---- how names were declared

  kind_there : (name : List ℕ) (d : Declared) (e : Entry) → find_declared (names_of s) name ≡ Some d
      → entry_at s d.target ≡ Some e → kind_of (names_of s) name ≡ Some (kind_of_body e.body)
  kind_there name d e found stands = rw (found, get-declared s.entries d.target e stands) refl

  variable_is : (b : Body) → is_variable (Some (kind_of_body b)) ≡ true → (v : Value) × (b ≡ model.Variable v)
  variable_is (model.Variable v) is = (v, refl)
  variable_is (model.Computed (model.Bind left body) kept) is = absurd (cc)
  variable_is b is = absurd (cc)

  bind_is : (k : Kind) → is_bind (Some k) ≡ true → k ≡ check.Bind
  bind_is check.Bind is = refl
  bind_is k is = absurd (cc)

  only_one : {A : Type 0} (p : A → std.Bool) (x : A) → list_any (λ y. not (p y)) (x ∷ []) ≡ false → p x ≡ true
  only_one p x e = not_false (p x) (none_first (λ y. not (p y)) x [] e).0

  -- ---- what each command changes

  -- where the command is the one that a line comes to
  as_command : (l : Line) (d c : Command) → Some d ≡ Some c → Unopposed F s l c → (Unopposed F s l d → Valid F (effect s d)) → Valid F (effect s c)
  as_command l d c e free may = let same = some_is d c e in subst (λ x. Valid F (effect s x)) same (may (subst (Unopposed F s l) (sym same) free))

  links_there : (n : ℕ) (e : Entry) → entry_at s n ≡ Some e → links_at s n ≡ links_of e.body
  links_there n e stands = rw (links_at, stands) refl

  link_valid : (n : ℕ) (k : Kind) (e : Entry) (d : Declared) (l : Line) (c : Command) → entry_at s n ≡ Some e
      → kind_of_body e.body ≡ k → NameHasType s here d.target d.ty
      → link_of (Some k) n d ≡ Some c → Unopposed F s l c → Valid F (effect s c)
  link_valid n (check.Expert t) e d l c stands kind named is free =
      let same = same_some d.ty t (Some (Link n d.target)) c is in
      as_command l (Link n d.target) c same.1 free (λ may.
      let few : nat_le 4096 (length (links_at s n)) ≡ false = may.links in
      links_valid F s valid n d.target t e stands kind (subst (λ u. NameHasType s here d.target u) same.0 named)
      (leb-false 4096 (length (links_of e.body)) (rw (links_there n e stands) at few)))
  link_valid n k e d l c stands kind named is free = absurd (cc)

  advance_valid : (span : Time) (c : Command) → Some (Advance (s.now + unwrap_or span 0)) ≡ Some c
      → Unopposed F s (grammar.Advance span) c → Valid F (effect s c)
  advance_valid None c is free = let no = free.times in absurd (cc)
  advance_valid (Some span) c is free =
      as_command (grammar.Advance (Some span)) (Advance (s.now + span)) c is free
      (λ may. advances_valid F s valid (s.now + span) (omega arith)
      (ltb-true (s.now + span) (2 ^ 63) (not_false _ (either_false _ false free.times).0)))

  advance_to_valid : (time : Time) (c : Command) → ProperTime time → Some (Advance (unwrap_or time 0)) ≡ Some c
      → Unopposed F s (grammar.AdvanceTo time) c → Valid F (effect s c)
  advance_to_valid None c proper is free = let no = free.times in absurd (cc)
  advance_to_valid (Some time) c proper is free =
      as_command (grammar.AdvanceTo (Some time)) (Advance time) c is free
      (λ may. advances_valid F s valid time (ltb-false time s.now may.forward) proper)

  effect_valid : (l : Line) (c : Command) → ProperLine l → command_of F (names_of s) l ≡ Some c → Unopposed F s l c → Valid F (effect s c)
  effect_valid (grammar.Var name t first) c proper is free =
      let v = then_some (literal_of_type (names_of s) t first) _ c is in
      let may : MayStand (record { body = model.Variable v.0; ty = t }) = record {
        typed = literal_of_has F s valid t first v.0
            proper v.1;
        plain = λ bind w is. absurd (cc);
      } in
      as_command (grammar.Var name t first) (Declare name t (model.Variable v.0)) c v.2 free
      (λ free. declare_valid name (record { body = model.Variable v.0; ty = t }) may free.places)
  effect_valid (grammar.Set name literal) c proper is free =
      let d = then_some (find_declared (names_of s) name) _ c is in
      let v = then_some (literal_of_type (names_of s) d.0.ty literal) _ c d.2 in
      let named = found_has F s valid name d.0 d.1 in
      let variable = variable_is named.entry.body
      (rw (kind_there name d.0 named.entry d.1 named.stands) at (only_one (λ name. is_variable (kind_of (names_of s) name))
      name free.variable)) in
      as_command (grammar.Set name literal) (Assign d.0.target v.0) c v.2 free (λ may.
      assigns_valid F s valid d.0.target v.0 variable.0 named.entry named.stands variable.1
      (rw named.typed (literal_of_has F s valid d.0.ty literal v.0 proper v.1)))
  effect_valid (grammar.Let name tree) c proper is free =
      let t = then_some (typed_top F (names_of s) tree) _ c is in
      as_command (grammar.Let name tree) (Declare name t.0.ty t.0.body) c t.2 free
      (λ may. declare_valid name t.0 (let_stands name tree t.0 c proper free t.1) may.places)
  effect_valid (grammar.Expert name function first) c proper is free =
      let f = then_some (F.named function) _ c is in
      let t = then_some (expert_of (names_of s) first f.0) _ c f.2 in
      as_command (grammar.Expert name function first) (Declare name t.0.ty t.0.body) c t.2 free
      (λ may. declare_valid name t.0 (expert_stands function f.0 first t.0 f.1 proper t.1) may.places)
  effect_valid (grammar.Link expert name) c proper is free =
      let e = then_some (find_declared (names_of s) expert) _ c is in
      let d = then_some (find_declared (names_of s) name) _ c e.2 in
      let at_expert = found_has F s valid expert e.0 e.1 in
      link_valid e.0.target (kind_of_body at_expert.entry.body) at_expert.entry d.0 (grammar.Link expert name) c
      at_expert.stands refl (found_has F s valid name d.0 d.1)
      (subst (λ k. link_of k e.0.target d.0 ≡ Some c) (kind_there expert e.0 at_expert.entry e.1 at_expert.stands) d.2) free
  effect_valid (grammar.Unlink expert name) c proper is free =
      let e = then_some (find_declared (names_of s) expert) _ c is in
      let d = then_some (find_declared (names_of s) name) _ c e.2 in
      as_command (grammar.Unlink expert name) (Unlink e.0.target d.0.target) c d.2 free (λ may. unlinks_valid F s valid e.0.target d.0.target)
  effect_valid (grammar.Stale expert) c proper is free =
      let e = then_some (find_declared (names_of s) expert) _ c is in
      as_command (grammar.Stale expert) (Stale e.0.target) c e.2 free (λ may. stales_valid F s valid e.0.target)
  effect_valid (grammar.Grab name bind) c proper is free =
      let b = then_some (find_declared (names_of s) bind) _ c is in
      let named = found_has F s valid bind b.0 b.1 in
      let kind = bind_is (kind_of_body named.entry.body) (rw
      (kind_there bind b.0 named.entry b.1 named.stands) at (only_one (λ name. is_bind (kind_of (names_of s) name)) bind free.bind)) in
      as_command (grammar.Grab name bind) (Take name b.0.ty b.0.target) c b.2 free (λ may.
      takes_valid F s valid name b.0.ty b.0.target named.entry named.stands named.own named.typed kind)
  effect_valid (grammar.Observe observer name) c proper is free =
      let d = then_some (find_declared (names_of s) name) _ c is in
      as_command (grammar.Observe observer name) (Observe observer d.0.target) c d.2 free
      (λ may. observes_valid F s valid observer d.0.target d.0.ty (found_has F s valid name d.0 d.1))
  effect_valid (grammar.Unobserve observer) c proper is free =
      as_command (grammar.Unobserve observer) (Unobserve observer) c is free (λ may. unobserves_valid F s valid observer)
  effect_valid (grammar.Watch observer) c proper is free =
      as_command (grammar.Watch observer) (Watch observer) c is free (λ may. watches_valid F s valid observer)
  effect_valid (grammar.Show observer) c proper is free = as_command (grammar.Show observer) (Show observer) c is free (λ may. valid)
  effect_valid (grammar.Advance span) c proper is free = advance_valid span c is free
  effect_valid (grammar.AdvanceTo time) c proper is free = advance_to_valid time c proper is free
  effect_valid grammar.Stabilize c proper is free = as_command grammar.Stabilize Stabilize c is free (λ may. valid)

-- ---- lines

module _ (F : Meanings) (keep : KeepToTypes F) (m after : Moment) (replies : List Reply) (valid : ValidMoment F m) where
  stabilizes_valid : Stabilizes F m after replies → ValidMoment F after
  stabilizes_valid (settles notices free s settled unbroken is) =
      let present = settles_valid F m.settled m.present after.present notices keep valid.1 s in
      (rw settled present, present)
  stabilizes_valid (by_cycle targets n cycle among met leads is) = rw leads valid
  stabilizes_valid (by_height target i met deep printed leads is) = rw leads valid

  allowed_valid : (c : Command) → Valid F (effect m.present c) → Follows F m (allowed (Some c)) after replies → ValidMoment F after
  allowed_valid Stabilize present h = stabilizes_valid h
  allowed_valid c present h = rw h.0 (valid.0, present)

  line_valid : (l : Line) → ProperLine l → Follows F m (verdict_of F m l) after replies → ValidMoment F after
  line_valid l proper h = go (command_of F (names_of m.present) l) refl (first_that (holds F m l) order) refl h
    where
      go : (c : Option Command) → command_of F (names_of m.present) l ≡ c → (why : Option Reason)
          → first_that (holds F m l) order ≡ why → Follows F m (verdict_for m c why) after replies → ValidMoment F after
      go c is (Some why) first h = rw h.0 valid
      go None is None first h = rw h.0 valid
      go (Some c) is None first h = allowed_valid c (effect_valid F m.present valid.1 l c proper is (unopposed F m l c is first)) h

  answers_valid : (bytes : List ℕ) (r : Request) → IsRequest bytes r → Answers F m r after replies → ValidMoment F after
  answers_valid bytes TooLong asks h = rw h.0 valid
  answers_valid bytes Blank asks h = rw h.0 valid
  answers_valid bytes Malformed asks h = rw h.0 valid
  answers_valid bytes TooDeep asks h = rw h.0 valid
  answers_valid bytes (Asks l) asks h = line_valid l (line_proper _ l asks.1.1) h

pub steps_keep_validity : StepsKeepValidity
steps_keep_validity F m after line replies keep valid h = answers_valid F keep m after replies valid line h.0 h.1 h.2

pub lines_keep_validity : LinesKeepValidity
lines_keep_validity F m after bytes l replies keep valid line h = line_valid F keep m after replies valid l (line_proper bytes l line) h

pub halts_keep_validity : HaltsKeepValidity
halts_keep_validity F m after line calls keep valid (unchanged same none) = rw same valid
halts_keep_validity F m after line calls keep valid (accepted k replies asks answers due) =
    answers_valid F keep m after (Stable k ∷ replies) valid _ (Asks grammar.Stabilize) asks answers
halts_keep_validity F m after line calls keep valid (broken asks unbroken is few) = rw is valid

-- ---- runs

nothing_valid : (F : Meanings) → Valid F start
nothing_valid F = record { entries = λ n e is. absurd (cc); observers = tt; now = omega arith; places = omega arith }

pub start_is_valid : StartIsValid
start_is_valid F = (nothing_valid F, nothing_valid F)

chain_valid : (F : Meanings) → KeepToTypes F → (m end : Moment) (turns : List Turn) → ValidMoment F m → Chain F m turns end
    → Every (λ (t : Turn). ValidMoment F t.before × ValidMoment F t.after) turns
chain_valid F keep m end [] valid h = tt
chain_valid F keep m end (t ∷ turns) valid h =
    let before : ValidMoment F t.before = rw h.0 valid in
    let after = answers_valid F keep t.before t.after t.replies before t.line t.request h.1.asks h.1.answers in
    ((before, after), chain_valid F keep t.after end turns after h.2)

pub runs_are_valid : RunsAreValid
runs_are_valid F lines turns keep run = chain_valid F keep first_moment run.end turns (start_is_valid F) run.chain
