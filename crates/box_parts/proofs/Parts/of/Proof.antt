-- The walk of `of`: the box's own call gives the pointer, the allocator and what the box owned, and the parts take them over.
use mathlib.Core.Path.{◌≡◌, refl}
use mathlib.Core.List.{List, [], ◌∷◌, ◌++◌}
use mir.Syntax.{dcons, dnil}
use mir.MapTy.{inst_fn}
use mir.Raw.{raw as bare}
use mir.Val.{Val}
use base.Logic.{SProp, emp, id⊢, fst∗, never}
use base.Fml.{ftrue, fsep, flft}
use contract.Monad.{fact, fact_i}
use contract.Running.{tables}
use prog.Wp.{WpFn}
use types.Logic.{sem}
use types.Kit.{‵, raw, ◌⊛◌, some, later, ◌$◌, ◌∵◌, !, qed, by, move, keep, drop, use0, use1, split, split3, join, fsplit, fjoin, fpick, pick, feq_l, rewrite, suffices, await}
use types.Part.{agg, sub, whole}
use types.Run.{stop, fld, of_opd, no_more, and_then, returns, enter}
use types.ByLocal.{alloc_all, pass_all, free_all, look_at, get, get_in, sets, lands_as}
use denote.Exit.{no}
use denote.RattleType.{owns}
use denote.RawPtr.{Ptr, RawPtr, block_ptr, null_ptr, in_a_block}
use denote.Signature.{types_at, plain}
use denote.Steps.{heard, nothing}
use denote.Struct.Tuple.{Tuple}
use denote.Triple.Call.{calls_at}
use denote.Triple.Spec.{triple_of}
use denote.Triple.Table.{framed}
use denote.Triple.Walked.{Stays, stay_dropped, walk_of}
use Rattle.core.proofs.alloc.Calls.{token, handle_tells, Goes-blank}
use Rattle.std.proofs.raw_atomic.Walks.{proved_at, leaves}
use Rattle.std_alloc.specs.Box.Ownership.{box_owns}
use Rattle.std_alloc.proofs.BoxSteps.Form.{D, B, P, R, word, box_typed, τ}
use Rattle.std_alloc.proofs.BoxSteps.Steps.{box_out, box_in}
use Rattle.std_alloc.specs.contracts.boxed.Box.into_raw_with_allocator as opened
use Rattle.std_alloc.proofs.boxed.Box.into_raw_with_allocator.Met.{met}
use Rattle.box_parts.proofs.Boxes.{boxes, parts_of, passed, pair_is, at_values}
use Rattle.box_parts.specs.contracts.Parts.of as here
use Rattle.box_parts.specs.contracts.Parts.of.Key.{name as #self}
use Rattle.box_parts.proofs.Parts.of.Statement.{statement}
use Rattle.box_parts.proofs.Parts.of.Code as code

pub of_spec : {M : Type 1} → statement M
of_spec 𝓤 𝓛 𝓜 𝓡 wired T A LT LA g d dd dx allocator frees glue =
    let E = boxes T A LT LA g d dd in let Box = B E in let Parts = parts_of E in let Heap = P E in
    let 𝓣 = tables 𝓤 𝓛.H 𝓜 𝓡 𝓡.env in let dicts = dcons d (dcons dd (dcons dx dnil)) in let fn = inst_fn (passed E dicts) code.function in
    let ended = here.ended T A g d dd dx in let c = here.clauses T A g d dd dx 𝓛 𝓜.mem 𝓡.returns in
    let stays : Stays ended.signature.params ended.kept = (stay_dropped (plain (λ _. Box)) no, tt) in
    proved_at 𝓛 ended stays c 𝓜 𝓡 (Goes-blank 𝓛 2 (plain (λ _. Box)) no (λ κs x f. tt), tt) (#self (passed E dicts)) fn (code.unfolded 𝓤 𝓛.H 𝓜 𝓡 wired (T, (A, tt)) d dd dx) (λ y are.
    let κs = y.0.0 in let qs = y.0.1 in let boxed = y.0.3.0 in let heap = boxed.alloc in let value = boxed.value in
    let Post : Val → SProp 𝓤 = (walk_of 𝓛 ended stays c).post y in let Run : List Val → SProp 𝓤 = λ ws. WpFn 𝓤 𝓛.H 𝓣.C 𝓣.Λ fn (ws ++ []) Post in
    let tokens = ‵ (flft κs.0 qs.0) ⊛ ‵ (flft κs.1.0 qs.1.0) ⊛ ‵ ftrue in
    qed 𝓛 ((tokens ⊛ ‵ (owns (types_at ended.signature.params κs) y.0.3 y.0.4)) ∷ raw ((c κs y.0.3).requires y.1) ∷ []) ∵
    -- the box's word is its pointer and its handle
    split ! $ move ! (1 ∷ []) $ fsplit ! $ box_out E ! boxed y.0.4.0 (λ b o handle place is fits. box_in E ! boxed b o value place refl $
    let w : Val = word E handle b o in
    let Call = triple_of 𝓛 (opened.signature T A g d dd dx) (opened.spec T A g d dd dx 𝓛 𝓜.mem 𝓡.returns) in
    let z : Call.Ghost = ((κs, qs, tt, (boxed, tt), (w ∷ [], tt)), tt) in
    fjoin ! $ move ! (1 ∷ 0 ∷ []) $ join ! $ join ! $ use1 𝓛 (raw (Call.pre z)) (id⊢ 𝓤 _) $ suffices ! (Run (w ∷ [])) (at_values 𝓤 Run is) $
    -- the call takes the box apart
    enter ! 𝓣.C 𝓣.Λ fn (w ∷ []) Post $ alloc_all ! (λ l. pass_all ! refl (box_typed E handle b o fits, tt) $
    sets ! (of_opd ! (get ! refl)) refl (box_typed E handle b o fits) $
    calls_at ! (framed 𝓤 𝓛.H 𝓜 𝓣) Call (met 𝓤 𝓛 𝓜 𝓡 (code.calls-std_alloc::boxed::Box::into_raw_with_allocator 𝓡.env wired) T A LT LA g d dd dx allocator frees glue) z
    (and_then ! (get ! refl) (no_more !)) (λ pair.
    use1 𝓛 (later (some (λ (r : Ptr × A.Denot). (tokens ⊛ ‵ ((Tuple (RawPtr ∷ Heap ∷ [])).own_val r (pair ∷ []))) ⊛
    some (λ (_ : (Unit {0} × (Unit {0} × Unit {0})) × Unit {0}). ‵ (fsep (fsep ftrue (fsep ftrue ftrue)) ftrue) ⊛
    (raw (fact 𝓤 (r.1 ≡ heap)) ⊛ ‵ (box_owns (token E.al heap) (R E) r.0 value)))))) (id⊢ 𝓤 _) $
    await ! tt $ pick ! (λ r. split ! $ move ! (1 ∷ []) $ pick ! (λ _. split3 ! $ drop ! $ heard ! (r.1 ≡ heap) (λ same.
    -- [what the box owned; the tokens and the pair]
    in_a_block ! r.0 (λ p. box_owns (token E.al heap) (R E) p value) (fst∗ 𝓤 (never 𝓤) (sem 𝓛 (token E.al heap (bare (τ E)) null_ptr))) (λ b' o' place'.
    move ! (1 ∷ []) $ split ! $ move ! (1 ∷ []) $ fpick ! (λ parts. fsplit ! $ feq_l ! (λ is_pair. fsplit ! $ feq_l ! (λ is_pointer. fsplit ! $
    rewrite ! 0 (λ (a : A.Denot). ‵ (A.own_val a parts.1.0)) same refl $ handle_tells E.al ! heap parts.1.0 (λ handle' is_handle fits'.
    let typed = box_typed E handle' b' o' fits' in
    lands_as ! (pair_is E is_pair is_pointer place' is_handle) refl typed $
    sets ! (of_opd ! (get_in ! (fld ! refl (stop !)) (sub ! 0 refl (whole !)))) refl (tt, tt) $
    sets ! (of_opd ! (get_in ! (fld ! refl (stop !)) (sub ! 1 refl (whole !)))) refl fits' $ sets ! (of_opd ! (get ! refl)) refl fits' $
    sets ! (agg ! (and_then ! (get ! refl) (and_then ! (get ! refl) (no_more !)))) refl typed $ returns ! (look_at ! 0 refl) $ free_all ! refl $
    -- [the handle; nothing; the tokens; what the box owned]
    let again : D E = record { ptr = block_ptr b' o'; alloc = heap; value = value } in let made : Parts.Denot = record { ptr = block_ptr b' o'; alloc = heap; value = value } in
    move ! (3 ∷ []) $ fsplit ! $ move ! (0 ∷ 1 ∷ 2 ∷ []) $ box_in E ! again b' o' value refl refl $ use1 𝓛 (‵ (Parts.own_val made (word E handle' b' o' ∷ []))) (id⊢ 𝓤 _) $
    use0 𝓛 (raw (fact 𝓤 (value ≡ value))) (fact_i 𝓤 (value ≡ value) (emp 𝓤) refl) $ nothing ! $ nothing ! $ fjoin ! $ keep ! (4 ∷ 0 ∷ 2 ∷ 1 ∷ []) $
    by ! (leaves 𝓛 ended stays c y (word E handle' b' o') made ((tt, (tt, tt)), tt) (tt, tt))))))))))))))
