use Rattle.std.proofs.Common.{◌≡◌, ◌∷◌, [], ◌++◌, List, ℕ, ap, ◌∙◌}
use Rattle.std.specs.List.{flat_map}
use Rattle.std.specs.Prelude.{codes}
use Rattle.script_graph.specs.Stabilizing.{closed}
use Rattle.session.proofs.Passing.{told_line, where_ok}
use Rattle.session.proofs.script.naming.write_passed.Goals as goal
use Rattle.session.specs.Replies.{cycle_line, name_in, named_of}

pub returns-clause-ok : goal.returns-clause-ok
returns-clause-ok g c =
    let names = name_in c.args.names.now in
    let told = c.in_ok-first.ensures in
    let begun : c.extend_from_slice.new.self.items ≡ codes "refused 20 cycle" =
    c.in_ok-extend_from_slice.ensures.items ∙ ap (λ (l : List ℕ). l ++ codes "refused 20 cycle") c.new-line.ensures.items in
    let named = told.3 ∙ ap (λ (l : List ℕ). l ++ flat_map (named_of names) told.0) begun in
    let whole = told_line names told.0 c.in_ok-first.first c.write_each_passed.new.line.items told.2 named in
    let first = c.in_ok-write_first.ensures.ok in
    let pushed = c.in_ok-push.ensures.items in
    let written : c.deref.result.now ≡ cycle_line names (closed told.0) =
    c.deref.ensures.value ∙ (pushed ∙ (ap (λ (l : List ℕ). l ++ 10 ∷ []) first ∙ whole)) in
    where_ok c.extend_from_slice-2.result c.extend_from_slice-2.new.self.items c.args.out.now.items c.deref.result.now c.extend_from_slice-2.ensures.items
    (λ appended. (told.0, told.1, appended ∙ ap (λ (l : List ℕ). c.args.out.now.items ++ l) written))
