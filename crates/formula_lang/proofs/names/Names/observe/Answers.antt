use Rattle.std.proofs.Common.{◌≡◌, false, sym, subst, refl}
use Rattle.script_model.specs.Check.{Names, is_among}
use Rattle.formula_lang.proofs.Listing.{observed}
use Rattle.formula_lang.proofs.names.Names.observe.Goals as goal

pub returns-clause-ok : goal.returns-clause-ok
returns-clause-ok c =
    let free = subst (λ (n : Names). is_among n.observers c.args.name.now ≡ false) (sym c.self.view_is) c.requires in
    let after = observed (λ k. k.items) c.in_ok-key.key c.args.name.now c.self.inside.observers.keys c.in_ok-key.ensures.items free in
    rw (← c.self.view_is, c.in_ok-insert.ensures.keys, after) refl
