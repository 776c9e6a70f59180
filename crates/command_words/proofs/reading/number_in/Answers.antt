use Rattle.std.proofs.Common.{ℕ, Option, refl, sym, ◌∙◌, subst}
use Rattle.std.specs.Option.{IsSome}
use Rattle.std.specs.Str.Parse.{ExplainsUnsignedError, HasUnsignedDigitsIfOk, ParsesUnsigned}
use Rattle.clap.proofs.WalkLemmas.{one_text-rows}
use Rattle.clap.specs.Words.{found_of}
use Rattle.command_words.proofs.Taken.{number_is, number_read}
use Rattle.command_words.proofs.reading.number_in.Goals as goal

pub unwrap-requires : goal.unwrap-requires
unwrap-requires c =
    let given = c.requires.2 in
    let read = c.get_one.ensures.value given.text (one_text-rows (found_of c.args.found.now) c.args.name.now ∙ given.given) in
    let is = number_read (λ bs r. ParsesUnsigned 64 10 bs r × ExplainsUnsignedError 10 bs r × HasUnsignedDigitsIfOk bs r) given.text c.requires.0 c.requires.1 c.get_one.result
    (λ u x g. g.0) given.taken read in
    subst (λ (o : Option ℕ). IsSome o) (sym is) refl

pub returns : goal.returns
returns c = λ text here.
    let given = c.requires.2 in
    let read = c.get_one.ensures.value given.text (one_text-rows (found_of c.args.found.now) c.args.name.now ∙ given.given) in
    let is = number_read (λ bs r. ParsesUnsigned 64 10 bs r × ExplainsUnsignedError 10 bs r × HasUnsignedDigitsIfOk bs r) given.text c.requires.0 c.requires.1 c.get_one.result
    (λ u x g. g.0) given.taken read in
    number_is (found_of c.args.found.now) c.args.name.now text given.text c.unwrap.result here given.given (sym c.unwrap.ensures ∙ is)
