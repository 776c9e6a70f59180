-- Steps of reading, as the code takes them.
use Rattle.std.proofs.Common.{◌≡◌, ℕ, zero, suc, ◌+◌, ◌-◌, ◌<◌, true, false, cond, if◌then◌else◌, codes, drop, map, Bool, List, [], ◌∷◌, ◌++◌, None, Some, option_map, refl, ◌∙◌, arith}
use Rattle.std.proofs.lemmas.List.{map-append}
use Rattle.inc_value.specs.Choice.{and_then}
use Rattle.script_model.specs.Grammar.{Line, Expert}
use Rattle.script_model.specs.Literals.{Literal}
use Rattle.script_model.specs.Parsing.{Read, then_read, read, expect, is_sign, is_word, behind_element, list_front, any_front, or_read, tally, formula_read, step_front, name_front, one_name, two_names, whole, fold_head, expert_read}
use Rattle.script_model.specs.Tokens.{Token, Open, Close, OpenBracket, CloseBracket, Comma, Colon, Equals, Ampersand, Punctuation}
use Rattle.line_parser.specs.Reading.{begins_with, begins_with_word, count_of_word, is_empty, name_alone, names_alone}
use Rattle.line_parser.specs.TreeView.{tree_view}
use Rattle.line_parser.specs.View.{timed_view}
use Rattle.line_parser.specs.declared.tree.TimedLiteral as code_timed
use Rattle.line_parser.specs.declared.tree.Tree as code

-- ---- what is expected, as it is looked for

pub word_eaten : {A : Type 0} (w : List ℕ) (tokens : List Token) (next : List Token → Read A)
    → expect (is_word w) tokens next ≡ (if begins_with_word w tokens then next (drop 1 tokens) else None)
word_eaten w [] next = refl
word_eaten w (t ∷ rest) next = refl

-- ---- a word, as often as it stands at the front

pub word_again : (w : List ℕ) (tokens : List Token) → begins_with_word w tokens ≡ true
    → count_of_word w tokens ≡ count_of_word w (drop 1 tokens) + 1
word_again w [] is = absurd (cc)
word_again w (t ∷ rest) is = rw is (omega arith)

-- ---- lists

module _ {A : Type 0} (part : List Token → Read A) (end : ℕ) where
  -- nothing is read where there is no room
  pub list_front_none : (n : ℕ) (done : List A) (tokens : List Token) → n ≡ 0 → None ≡ list_front part end n done tokens
  unfolding list_front
  list_front_none n done tokens e = rw e refl

  -- behind fewer than the limit the next one is read, and then what stands behind it
  pub list_front_more : (limit count : ℕ) (done : List A) (tokens : List Token) → count < limit
      → list_front part end (limit - count) done tokens
      ≡ then_read (part tokens) (λ x rest. behind_element (list_front part end (limit - (count + 1))) end (done ++ x ∷ []) rest)
  unfolding list_front
  list_front_more limit count done tokens h = let more : limit - count ≡ suc (limit - (count + 1)) = omega (arith, h) in rw more refl

  -- what stands behind it, by the signs that are eaten
  pub behind_eaten : (n : ℕ) (now : List A) (tokens : List Token) → behind_element (list_front part end n) end now tokens
      ≡ (if begins_with end tokens then read now (drop 1 tokens)
      else (if begins_with 44 tokens then list_front part end n now (drop 1 tokens) else None))
  behind_eaten n now [] = refl
  behind_eaten n now (t ∷ rest) = refl

-- one step of the loop that reads a list: what it has read so far stands for what is left to read
module _ {A : Type 0} (part : List Token → Read A) (end limit count : ℕ) (done : List A) (tokens : List Token) (less : count < limit) where
  pub none_read : None ≡ part tokens → None ≡ list_front part end (limit - count) done tokens
  none_read none = rw (list_front_more part end limit count done tokens less, ← none) refl

  module _ (x : A) (rest : List Token) (found : Some (x, rest) ≡ part tokens) where
    behind_one : list_front part end (limit - count) done tokens
        ≡ (if begins_with end rest then read (done ++ x ∷ []) (drop 1 rest)
        else (if begins_with 44 rest then list_front part end (limit - (count + 1)) (done ++ x ∷ []) (drop 1 rest) else None))
    behind_one = rw (list_front_more part end limit count done tokens less, ← found)
        (behind_eaten part end (limit - (count + 1)) (done ++ x ∷ []) rest)

    pub list_ended : true ≡ begins_with end rest → read (done ++ x ∷ []) (drop 1 rest) ≡ list_front part end (limit - count) done tokens
    list_ended is = rw (behind_one, ← is) refl

    pub list_continued : false ≡ begins_with end rest → true ≡ begins_with 44 rest
        → list_front part end (limit - (count + 1)) (done ++ x ∷ []) (drop 1 rest) ≡ list_front part end (limit - count) done tokens
    list_continued more comma = rw (behind_one, ← more, ← comma) refl

    pub list_broken : false ≡ begins_with end rest → false ≡ begins_with 44 rest → None ≡ list_front part end (limit - count) done tokens
    list_broken more comma = rw (behind_one, ← more, ← comma) refl

or_none : {A : Type 0} (o : Read A) → or_read o None ≡ o
or_none None = refl
or_none (Some p) = refl

closes : (t : Token) → is_sign 93 t ≡ true → t ≡ Punctuation CloseBracket
closes (Punctuation CloseBracket) e = refl
closes (Punctuation Open) e = absurd (cc)
closes (Punctuation Close) e = absurd (cc)
closes (Punctuation OpenBracket) e = absurd (cc)
closes (Punctuation Comma) e = absurd (cc)
closes (Punctuation Colon) e = absurd (cc)
closes (Punctuation Equals) e = absurd (cc)
closes (Punctuation Ampersand) e = absurd (cc)
closes t e = absurd (cc)

-- where no part begins with the `]`, it is looked for first
module _ {A : Type 0} (part : List Token → Read A) (closed : (rest : List Token) → part (Punctuation CloseBracket ∷ rest) ≡ None) where
  none_before_end : (n : ℕ) (rest : List Token) → list_front part 93 n [] (Punctuation CloseBracket ∷ rest) ≡ None
  unfolding list_front
  none_before_end zero rest = refl
  none_before_end (suc n) rest = rw (closed rest) refl

  pub any_eaten : (tokens : List Token) → any_front part 93 tokens
      ≡ (if begins_with 93 tokens then read [] (drop 1 tokens) else list_front part 93 (tally tokens) [] tokens)
  any_eaten [] = or_none (list_front part 93 0 [] [])
  any_eaten (t ∷ rest) = go (is_sign 93 t) refl
    where
      go : (b : Bool) → is_sign 93 t ≡ b → any_front part 93 (t ∷ rest) ≡ cond b (read [] rest) (list_front part 93 (suc (tally rest)) [] (t ∷ rest))
      go true is = rw (closes t is, none_before_end (suc (tally rest)) rest) refl
      go false is = rw (is, or_none (list_front part 93 (suc (tally rest)) [] (t ∷ rest))) refl

-- no formula and no step begins with the `]`
unopened : (n : ℕ) (rest : List Token) → formula_read n (Punctuation CloseBracket ∷ rest) ≡ None
unfolding formula_read
unopened zero rest = refl
unopened (suc n) rest = refl

pub elements_eaten : (n : ℕ) (tokens : List Token) → any_front (formula_read n) 93 tokens
    ≡ (if begins_with 93 tokens then read [] (drop 1 tokens) else list_front (formula_read n) 93 (tally tokens) [] tokens)
elements_eaten n tokens = any_eaten (formula_read n) (unopened n) tokens

pub steps_eaten : (tokens : List Token) → any_front step_front 93 tokens
    ≡ (if begins_with 93 tokens then read [] (drop 1 tokens) else list_front step_front 93 (tally tokens) [] tokens)
steps_eaten tokens = any_eaten step_front (λ rest. refl) tokens

-- ---- names alone

pub one_alone : (make : List ℕ → Line) (tokens : List Token) → one_name make tokens ≡ option_map make (name_alone tokens)
one_alone make tokens = go (name_front tokens)
  where
    go : (o : Read (List ℕ)) → whole o make ≡ option_map make (whole o (λ name. name))
    go None = refl
    go (Some (name, [])) = refl
    go (Some (name, t ∷ rest)) = refl

pub both_alone : (make : List ℕ → List ℕ → Line) (tokens : List Token)
    → two_names make tokens ≡ option_map (λ names. make names.0 names.1) (names_alone tokens)
both_alone make tokens = go (name_front tokens)
  where
    second : (first : List ℕ) (o : Read (List ℕ))
        → whole o (make first) ≡ option_map (λ (names : List ℕ × List ℕ). make names.0 names.1) (whole o (λ name. (first, name)))
    second first None = refl
    second first (Some (name, [])) = refl
    second first (Some (name, t ∷ rest)) = refl

    go : (o : Read (List ℕ)) → and_then o (λ p. whole (name_front p.1) (make p.0))
        ≡ option_map (λ (names : List ℕ × List ℕ). make names.0 names.1) (and_then o (λ first. whole (name_front first.1) (λ name. (first.0, name))))
    go None = refl
    go (Some p) = second p.0 (name_front p.1)

-- ---- an expert, behind its first word

module _ (tokens rest behind left : List Token) (name : List ℕ) (head : List ℕ × Literal) (named : name_front tokens ≡ Some (name, rest))
    (folds : begins_with_word (codes "fold") rest ≡ true) (after : behind ≡ drop 1 rest) (found : fold_head behind ≡ Some (head, left)) where
  expert_behind : whole (Some (head, left)) (λ h. Expert name h.0 h.1) ≡ expert_read tokens
  expert_behind =
      let there : expect (is_word (codes "fold")) rest fold_head ≡ Some (head, left) =
      word_eaten (codes "fold") rest fold_head ∙ rw (folds, ← after, found) refl in
      rw (named, there) refl

  pub expert_alone : is_empty left ≡ true → Some (Expert name head.0 head.1) ≡ expert_read tokens
  expert_alone is = go left is ∙ expert_behind
    where
      go : (ts : List Token) → is_empty ts ≡ true → Some (Expert name head.0 head.1) ≡ whole (Some (head, ts)) (λ h. Expert name h.0 h.1)
      go [] is = refl
      go (t ∷ ts) is = absurd (cc)

  pub expert_not_alone : is_empty left ≡ false → None ≡ expert_read tokens
  expert_not_alone is = go left is ∙ expert_behind
    where
      go : (ts : List Token) → is_empty ts ≡ false → None ≡ whole (Some (head, ts)) (λ h. Expert name h.0 h.1)
      go [] is = absurd (cc)
      go (t ∷ ts) is = refl

-- the trees, with one more pushed
pub map_pushed : (trees : List code.Tree) (t : code.Tree) → map tree_view (trees ++ t ∷ []) ≡ map tree_view trees ++ tree_view t ∷ []
map_pushed trees t = rw map-append refl

-- the steps, with one more pushed
pub steps_pushed : (steps : List code_timed.TimedLiteral) (s : code_timed.TimedLiteral)
    → map timed_view (steps ++ s ∷ []) ≡ map timed_view steps ++ timed_view s ∷ []
steps_pushed steps s = rw map-append refl
