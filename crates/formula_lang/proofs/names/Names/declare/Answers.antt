use Rattle.std.proofs.Common.{◌≡◌, ◌≤◌, length, None, sym, ◌∙◌, subst, refl}
use Rattle.script_model.specs.Check.{Names, first_named}
use Rattle.formula_lang.specs.declared.names.Declared.{Declared}
use Rattle.formula_lang.specs.NamesView.{declared_in}
use Rattle.formula_lang.proofs.Listing.{kept_after, declared_after}
use Rattle.formula_lang.proofs.names.Names.declare.Goals as goal

pub invariant_of-self-2 : goal.invariant_of-self-2
invariant_of-self-2 c =
    let back = sym c.self.view_is in
    let same : c.in_ok-new.field-0 ≡ c.args.name.now = c.in_ok-new.ensures in
    let named : c.in_ok-key.key.items ≡ c.in_ok-new.field-0 = c.in_ok-key.ensures.items ∙ sym same in
    let fresh : first_named c.in_ok-new.field-0 (declared_in c.self.inside.declared.entries) ≡ None =
    rw same (subst (λ (n : Names). first_named c.args.name.now n.declared ≡ None) back c.requires.fresh) in
    let earlier = subst (λ (n : Names). c.args.target ≤ length n.declared) back c.requires.earlier in
    let v : Declared = record { name = c.in_ok-new.field-0; ty = c.args.ty; kind = c.args.kind; target = c.args.target } in (
      kept_after (λ k. k.items) _ (λ x y. refl) c.in_ok-key.key v c.self.inside.declared.entries c.insert.new.self.entries c.self.invariant.0 fresh
          named c.in_ok-insert.ensures.entries earlier,
      c.self.invariant.1,
    )

pub returns-clause-ok : goal.returns-clause-ok
returns-clause-ok c =
    let back = sym c.self.view_is in
    let same : c.in_ok-new.field-0 ≡ c.args.name.now = c.in_ok-new.ensures in
    let named : c.in_ok-key.key.items ≡ c.in_ok-new.field-0 = c.in_ok-key.ensures.items ∙ sym same in
    let fresh : first_named c.in_ok-new.field-0 (declared_in c.self.inside.declared.entries) ≡ None =
    rw same (subst (λ (n : Names). first_named c.args.name.now n.declared ≡ None) back c.requires.fresh) in
    let v : Declared = record { name = c.in_ok-new.field-0; ty = c.args.ty; kind = c.args.kind; target = c.args.target } in
    let after = declared_after (λ k. k.items) _ (λ x y. refl) c.in_ok-key.key v c.self.inside.declared.entries c.insert.new.self.entries
    c.self.invariant.0 fresh named c.in_ok-insert.ensures.entries in
    rw (← c.self.view_is, after, same) refl
