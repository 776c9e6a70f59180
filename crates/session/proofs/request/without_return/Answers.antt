use Rattle.std.proofs.Common.{◌≡◌, ◌≢◌, ℕ, ◌∷◌, ◌++◌, [], List, sym, Option, Some, None, MatchOption, unwrap_or, Bor}
use Rattle.std.proofs.lemmas.Slice.Eq.{strip_suffix_is}
use Rattle.std.proofs.lemmas.Bool.Decides.{Decides-eqb}
use Rattle.script_model.specs.Language.{without_return}
use Rattle.session.proofs.CarriageReturns.{without_return-with, without_return-lacking}
use Rattle.session.proofs.request.without_return.Goals as goal

stripped : (line : Bor (List ℕ)) (content : Option (Bor (List ℕ))) → MatchOption content ((front : List ℕ) → line.now ≢ front ++ 13 ∷ [])
    (λ x. line.now ≡ x.now ++ 13 ∷ []) → (unwrap_or content line).now ≡ without_return line.now
stripped line None h = sym (without_return-lacking line.now h)
stripped line (Some x) h = rw h (sym (without_return-with x.now))

pub returns : goal.returns
returns c = rw c.unwrap_or.ensures (stripped c.args.line c.strip_suffix.result
    (strip_suffix_is Decides-eqb c.args.line.now (13 ∷ []) c.strip_suffix.result c.strip_suffix.ensures.cases))
