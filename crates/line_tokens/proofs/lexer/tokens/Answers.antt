use Rattle.std.proofs.Common.{◌≡◌, ◌-◌, ◌≤◌, length, map, ℕ, List, None, option_map, drop, take, ap, sym, ◌∙◌, arith}
use Rattle.std.proofs.lemmas.List.{length-drop, take_all, map-append}
use Rattle.script_model.proofs.TokenLaws.{read_space, read_token, read_end, read_none, first_token_shorter}
use Rattle.script_model.specs.Reading.{first_token}
use Rattle.line_tokens.specs.View.{token_view}
use Rattle.line_tokens.specs.Reading.{front_view}
use Rattle.line_tokens.proofs.lexer.tokens.Goals as goal

take_behind : (rest : List ℕ) → take (length rest - 1) (drop 1 rest) ≡ drop 1 rest
take_behind rest = let few : length (drop 1 rest) ≤ length rest - 1 = rw length-drop (omega arith) in take_all (length rest - 1) (drop 1 rest) few

pub loop-rest-preserved-then-first-eq32 : goal.loop-rest-preserved-then-first-eq32
loop-rest-preserved-then-first-eq32 c =
    rw (take_behind c.loop-rest.rest.now)
    (read_space c.args.line.now (map token_view c.loop-rest.found.items) c.loop-rest.rest.now c.in-len1-up.len_at_least c.if-first-eq32.true
    c.loop-rest.invariant)

pub returns-in_default-2-clause-none : goal.returns-in_default-2-clause-none
returns-in_default-2-clause-none c =
    let none : first_token c.loop-rest.rest.now ≡ None = sym c.in_ok-token.ensures ∙ ap (option_map front_view) c.in_default-2.is in
    read_none c.args.line.now (map token_view c.loop-rest.found.items) c.loop-rest.rest.now c.in-len1-up.len_at_least c.if-first-eq32.false none
    c.loop-rest.invariant

pub loop-rest-smaller : goal.loop-rest-smaller
loop-rest-smaller c =
    first_token_shorter c.loop-rest.rest.now (token_view c.in-Some.token) c.in-Some.behind.now
    (sym c.in_ok-token.ensures ∙ ap (option_map front_view) c.in-Some.is)

pub loop-rest-preserved : goal.loop-rest-preserved
loop-rest-preserved c =
    rw (c.in_ok-push.ensures.ok, map-append)
    (read_token c.args.line.now (map token_view c.loop-rest.found.items) c.loop-rest.rest.now (token_view c.in-Some.token) c.in-Some.behind.now
    c.in-len1-up.len_at_least c.if-first-eq32.false
    (sym c.in_ok-token.ensures ∙ ap (option_map front_view) c.in-Some.is) c.loop-rest.invariant)

pub returns-clause-found : goal.returns-clause-found
returns-clause-found c = read_end c.args.line.now (map token_view c.loop-rest.found.items) c.loop-rest.rest.now c.in_default.len_below
    c.loop-rest.invariant
