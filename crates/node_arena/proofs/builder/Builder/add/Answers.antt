use Rattle.node_arena.proofs.builder.Builder.add.Goals as goal

pub returns-clause-answer : goal.returns-clause-answer
returns-clause-answer c =
    let e = c.add.ensures in
    rw (← c.self.view_is) (record { unknown = e.unknown.0; wrong_type = e.wrong_type.0; full = e.full.0; addable = e.addable })

pub returns-clause-told : goal.returns-clause-told
returns-clause-told c =
    let e = c.add.ensures in
    rw (← c.self.view_is) (record {
      unknown = e.unknown.1;
      wrong_type = λ names not. e.wrong_type.1 (names, not);
      full = λ names makes full. e.full.1 (names, makes, full);
    })
