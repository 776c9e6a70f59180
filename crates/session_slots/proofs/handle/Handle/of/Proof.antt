-- The walk of `of`: two fields are moved, and what they own goes with them.
use mathlib.Core.Path.{◌≡◌, refl}
use mathlib.Core.List.{List, [], ◌∷◌, ◌++◌}
use mir.Val.{Val}
use base.Logic.{SProp, emp, id⊢}
use base.Fml.{ftrue, fsep}
use contract.Monad.{fact, fact_i}
use contract.Running.{tables}
use prog.Wp.{WpFn}
use types.Kit.{‵, raw, ◌⊛◌, ◌$◌, ◌∵◌, !, qed, by, move, keep, drop, use0, use1, split, fsplit, fjoin, suffices}
use types.Part.{agg, sub, whole}
use types.Run.{stop, fld, of_opd, no_more, and_then, returns, enter}
use types.ByLocal.{alloc_all, pass_all, free_all, look_at, get, get_in, sets}
use denote.Exit.{yes}
use denote.Signature.{plain}
use denote.Steps.{nothing}
use denote.Triple.Walked.{Stays, stay_dropped, Goes-dropped, walk_of}
use Rattle.std.proofs.raw_atomic.Walks.{proved_at, leaves}
use Rattle.std.specs.Prelude.{Some}
use Rattle.std_alloc.proofs.BoxSteps.Form.{B, D, word, box_typed}
use Rattle.std_alloc.proofs.BoxSteps.Steps.{box_out, box_in}
use Rattle.session_slots.proofs.Boxed.{boxed, Parts, Handle, at_values}
use Rattle.session_slots.specs.contracts.handle.Handle.of as here
use Rattle.session_slots.specs.contracts.handle.Handle.of.Key.{name as #self}
use Rattle.session_slots.proofs.handle.Handle.of.Statement.{statement}
use Rattle.session_slots.proofs.handle.Handle.of.Code as code

pub of_spec : {M : Type 1} → statement M
of_spec 𝓤 𝓛 𝓜 𝓡 wired =
    let 𝓣 = tables 𝓤 𝓛.H 𝓜 𝓡 𝓡.env in let ended = here.ended in let c = here.clauses 𝓛 𝓜.mem 𝓡.returns in
    let stays : Stays ended.signature.params ended.kept = (stay_dropped (plain (λ _. Parts)) yes, tt) in
    proved_at 𝓛 ended stays c 𝓜 𝓡 (Goes-dropped 𝓛 0 (plain (λ _. Parts)) yes (λ κs x f. refl), tt) #self code.function (code.unfolded 𝓤 𝓛.H 𝓜 𝓡 wired) (λ y are.
    let parts = y.0.3.0 in let value = parts.value in
    let was : D boxed = record { ptr = parts.ptr; alloc = parts.alloc; value = value } in
    let made : Handle.Denot = record { at = parts.ptr; alloc = parts.alloc; value = Some value } in
    let Post : Val → SProp 𝓤 = (walk_of 𝓛 ended stays c).post y in let Run : List Val → SProp 𝓤 = λ ws. WpFn 𝓤 𝓛.H 𝓣.C 𝓣.Λ code.function (ws ++ []) Post in
    qed 𝓛 ((‵ ftrue ⊛ ‵ (fsep ((B boxed).own_val was y.0.4.0) ftrue)) ∷ raw (emp 𝓤) ∷ []) ∵
    split ! $ drop ! $ fsplit ! $ box_out boxed ! was y.0.4.0 (λ b o heap place is fits. box_in boxed ! was b o value place refl $
    let w : Val = word boxed heap b o in
    use1 𝓛 (‵ (Handle.own_val made (w ∷ []))) (id⊢ 𝓤 _) $ move ! (1 ∷ 2 ∷ []) $ drop ! $ drop ! $ suffices ! (Run (w ∷ [])) (at_values 𝓤 Run is) $
    enter ! 𝓣.C 𝓣.Λ code.function (w ∷ []) Post $ alloc_all ! (λ l. pass_all ! refl (box_typed boxed heap b o fits, tt) $
    sets ! (of_opd ! (get_in ! (fld ! refl (stop !)) (sub ! 0 refl (whole !)))) refl (tt, tt) $
    sets ! (of_opd ! (get_in ! (fld ! refl (stop !)) (sub ! 1 refl (whole !)))) refl fits $ sets ! (of_opd ! (get ! refl)) refl (tt, tt) $
    sets ! (agg ! (and_then ! (get ! refl) (and_then ! (get ! refl) (no_more !)))) refl (box_typed boxed heap b o fits) $ returns ! (look_at ! 0 refl) $ free_all ! refl $
    use0 𝓛 (raw (fact 𝓤 (made.value ≡ Some value))) (fact_i 𝓤 (made.value ≡ Some value) (emp 𝓤) refl) $
    nothing ! $ nothing ! $ fjoin ! $ nothing ! $ keep ! (0 ∷ 1 ∷ 3 ∷ 2 ∷ []) $ by ! (leaves 𝓛 ended stays c y w made (tt, tt) (tt, tt)))))
