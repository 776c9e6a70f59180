-- The walk of `into_box`: the call that makes a box of a pointer gets what the parts own.
use mathlib.Core.Path.{◌≡◌, refl, sym, ap, subst}
use mathlib.Core.List.{List, [], ◌∷◌, ◌++◌}
use lib.Dec.{T as Is}
use mir.Syntax.{dcons, dnil}
use mir.MapTy.{inst_fn}
use mir.Val.{Val, vptr, has_ty, WT}
use base.Logic.{SProp, id⊢}
use base.Fml.{ftrue, flft}
use contract.BorrowLft.{◌⊑◌}
use contract.Monad.{fact}
use contract.Running.{tables}
use prog.Wp.{WpFn}
use types.Kit.{‵, raw, ◌⊛◌, some, later, at_ret, ◌$◌, ◌∵◌, !, qed, by, move, keep, drop, use1, split, split3, join, fsplit, fjoin, pick, feq_i, rewrite, suffices, await}
use types.Part.{sub, whole}
use types.Run.{stop, fld, of_opd, no_more, and_then, first, blocks, exec, returns, enter}
use types.ByLocal.{alloc_all, pass_all, free_all, look_at, get, get_in, sets, lands_last, env}
use denote.Exit.{no}
use denote.RattleType.{owns}
use denote.RawPtr.{block_ptr}
use denote.Signature.{types_at, plain}
use denote.Steps.{nothing, only}
use denote.Triple.Call.{calls_at_last}
use denote.Triple.Clauses.{Lasts, lasts}
use denote.Triple.Spec.{triple_of}
use denote.Triple.Table.{framed}
use denote.Triple.Walked.{Stays, stay_dropped, walk_of}
use Rattle.core.proofs.alloc.Calls.{Goes-blank}
use Rattle.core.proofs.alloc.Shapes.{after}
use Rattle.std.proofs.raw_atomic.Walks.{proved_at, leaves}
use Rattle.std_alloc.proofs.BoxSteps.Form.{D, B, box_ty, word, box_typed}
use Rattle.std_alloc.proofs.BoxSteps.Steps.{box_out, box_in}
use Rattle.std_alloc.specs.contracts.boxed.Box.from_raw as closed
use Rattle.std_alloc.proofs.boxed.Box.from_raw.Met.{met}
use Rattle.box_parts.proofs.Boxes.{boxes, parts_of, passed, at_values}
use Rattle.box_parts.specs.contracts.Parts.into_box as here
use Rattle.box_parts.specs.contracts.Parts.into_box.Key.{name as #self}
use Rattle.box_parts.proofs.Parts.into_box.Statement.{statement}
use Rattle.box_parts.proofs.Parts.into_box.Code as code

pub into_box_spec : {M : Type 1} → statement M
into_box_spec 𝓤 𝓛 𝓜 𝓡 wired T A LT LA g d dd allocator frees =
    let E = boxes T A LT LA g d dd in let Box = B E in let Parts = parts_of E in
    let 𝓣 = tables 𝓤 𝓛.H 𝓜 𝓡 𝓡.env in let dicts = dcons d (dcons dd dnil) in let fn = inst_fn (passed E dicts) code.function in
    let ended = here.ended T A g d dd in let c = here.clauses T A g d dd 𝓛 𝓜.mem 𝓡.returns in
    let stays : Stays ended.signature.params ended.kept = (stay_dropped (plain (λ _. Parts)) no, tt) in
    proved_at 𝓛 ended stays c 𝓜 𝓡 (Goes-blank 𝓛 2 (plain (λ _. Parts)) no (λ κs x f. tt), tt) (#self (passed E dicts)) fn (code.unfolded 𝓤 𝓛.H 𝓜 𝓡 wired (T, (A, tt)) d dd) (λ y are.
    let κs = y.0.0 in let qs = y.0.1 in let parts = y.0.3.0 in let heap = parts.alloc in let value = parts.value in
    let was : D E = record { ptr = parts.ptr; alloc = heap; value = value } in
    let Post : Val → SProp 𝓤 = (walk_of 𝓛 ended stays c).post y in let Run : List Val → SProp 𝓤 = λ ws. WpFn 𝓤 𝓛.H 𝓣.C 𝓣.Λ fn (ws ++ []) Post in
    let tokens = ‵ (flft κs.0 qs.0) ⊛ ‵ (flft κs.1.0 qs.1.0) ⊛ ‵ ftrue in
    qed 𝓛 ((tokens ⊛ ‵ (owns (types_at ended.signature.params κs) y.0.3 y.0.4)) ∷ raw ((c κs y.0.3).requires y.1) ∷ []) ∵
    -- the parts own as the box did: [the value with the right to free it; the handle; nothing; the tokens; what is asked]
    split ! $ move ! (1 ∷ []) $ fsplit ! $ box_out E ! was y.0.4.0 (λ b o handle place is fits. fjoin ! $
    let w : Val = word E handle b o in
    let Call = triple_of 𝓛 (closed.signature T A g d dd) (closed.spec T A g d dd 𝓛 𝓜.mem 𝓡.returns) in
    let z : Call.Ghost = ((κs, qs, tt, (heap, (block_ptr b o, tt)), (handle ∷ [], (vptr b o ∷ [], tt))), value) in
    move ! (4 ∷ []) $ use1 𝓛 (raw (fact 𝓤 (κs.0 ⊑ T.lives)) ⊛ raw (fact 𝓤 (κs.1.0 ⊑ A.lives)) ⊛ ‵ ftrue) (id⊢ 𝓤 _) $
    split3 ! $ move ! (2 ∷ []) $ drop ! $ move ! (1 ∷ 2 ∷ []) $ join ! $ move ! (1 ∷ 0 ∷ []) $ join ! $
    -- [what is asked and the value; the handle; nothing; the tokens]
    move ! (2 ∷ []) $ feq_i ! (List Val) (vptr b o ∷ []) (vptr b o ∷ []) refl $ fjoin ! $ move ! (2 ∷ 0 ∷ []) $ fjoin ! $ move ! (2 ∷ 0 ∷ []) $ join ! $ join ! $
    use1 𝓛 (raw (Call.pre z)) (id⊢ 𝓤 _) $ suffices ! (Run (w ∷ [])) (at_values 𝓤 Run is) $
    enter ! 𝓣.C 𝓣.Λ fn (w ∷ []) Post $ alloc_all ! (λ l. pass_all ! refl (box_typed E handle b o fits, tt) $ let locals = env fn.locals l in
    sets ! (of_opd ! (get_in ! (fld ! refl (stop !)) (sub ! 0 refl (whole !)))) refl (tt, tt) $
    sets ! (of_opd ! (get_in ! (fld ! refl (stop !)) (sub ! 1 refl (whole !)))) refl fits $
    first ! $ blocks ! $ sets ! (of_opd ! (get ! refl)) refl fits $
    calls_at_last ! (framed 𝓤 𝓛.H 𝓜 𝓣) Call (met 𝓤 𝓛 𝓜 𝓡 (code.calls-std_alloc::boxed::Box::from_raw 𝓡.env wired) T A LT LA g d dd allocator frees) z
    (and_then ! (get ! refl) (and_then ! (get ! refl) (no_more !))) (λ made.
    use1 𝓛 (later (some (λ (r : D E). (tokens ⊛ ‵ (Box.own_val r (made ∷ []))) ⊛ some (λ (ends : Lasts (closed.ended T A g d dd) κs z.0.3).
    ‵ (lasts (closed.ended T A g d dd) κs z.0.3 ends) ⊛ (raw (fact 𝓤 (r.value ≡ value)) ⊛ raw (fact 𝓤 (r.alloc ≡ heap))))))) (id⊢ 𝓤 (Call.post z made)) $
    await ! tt $ pick ! (λ r. split ! $ move ! (1 ∷ []) $ pick ! (λ _. split3 ! $ drop ! $ move ! (2 ∷ []) $ split ! $ move ! (1 ∷ []) $
    -- [what the new box owns; the tokens; its value; its allocator]
    box_out E ! r (made ∷ []) (λ b' o' handle' place' is' fits'. box_in E ! r b' o' r.value place' refl $ rewrite ! 0 (λ (us : List Val). ‵ (Box.own_val r us)) (sym is') refl $
    let typed : Is (has_ty (box_ty E) made) × WT made = subst (λ (v : Val). Is (has_ty (box_ty E) v) × WT v) (sym (ap only is')) (box_typed E handle' b' o' fits') in
    lands_last ! refl typed $ exec ! 𝓣.C 𝓣.Λ locals (after 3 fn.body) (at_ret locals Post) $ sets ! (of_opd ! (get ! refl)) refl typed $
    nothing ! $ nothing ! $ fjoin ! $ returns ! (look_at ! 0 refl) $ free_all ! refl $ keep ! (2 ∷ 0 ∷ 1 ∷ 3 ∷ []) $
    by ! (leaves 𝓛 ended stays c y made r ((tt, (tt, tt)), tt) (tt, tt)))))))))
