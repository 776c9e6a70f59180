use Rattle.std.proofs.Common.{inl, inr, sym, ◌∙◌, ap, ap₂, subst}
use Rattle.clap.proofs.WalkLemmas.{both}
use Rattle.clap.specs.Words.{HasKind, Kinds, fault_of, is_simple, is_simple_and_free, subcommand_of, subcommand_rows_of}
use Rattle.command_words.proofs.Building.{incr-simple}
use Rattle.command_words.proofs.Taken.{asks_for, map-same}
use Rattle.command_words.proofs.Whole.{taken_whole}
use Rattle.command_words.specs.Words.{IsWhole}
use Rattle.command_words.proofs.reading.asked_by.Goals as goal

pub asked_in-requires : goal.asked_in-requires
asked_in-requires c =
    let words = c.args.words.now in
    let taken = sym (ap₂ fault_of c.in_ok-command.ensures (map-same words)) ∙ c.in-Ok.ensures.kinds (ap is_simple_and_free c.in_ok-command.ensures ∙ incr-simple) in
    let met = (c.in-Ok.ensures.matches (ap is_simple c.in_ok-command.ensures ∙ (both _ _ incr-simple).0)).1 ∙ ap₂ subcommand_of c.in_ok-command.ensures (map-same words) in
    subst IsWhole (sym met) (taken_whole words taken)

pub returns-in-Ok : goal.returns-in-Ok
returns-in-Ok c =
    let words = c.args.words.now in
    let taken = sym (ap₂ fault_of c.in_ok-command.ensures (map-same words)) ∙ c.in-Ok.ensures.kinds (ap is_simple_and_free c.in_ok-command.ensures ∙ incr-simple) in
    let met = (c.in-Ok.ensures.matches (ap is_simple c.in_ok-command.ensures ∙ (both _ _ incr-simple).0)).1 ∙ ap₂ subcommand_of c.in_ok-command.ensures (map-same words) in
    asks_for words (subcommand_rows_of c.in-Ok.matches) taken met c.asked_in.result c.asked_in.ensures

pub returns : goal.returns
returns c = λ taken.
    let none = ap₂ fault_of c.in_ok-command.ensures (map-same c.args.words.now) ∙ taken in
    let kind = subst (λ (ks : Kinds). HasKind ks c.in-Err.error) none (c.in-Err.ensures.kinds (ap is_simple_and_free c.in_ok-command.ensures ∙ incr-simple)) in
    elim kind [ inl memory ↦ c.in_default.not-OutOfMemory (c.kind.ensures ∙ memory) | inr none' ↦ none' ]
