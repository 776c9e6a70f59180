-- Freezes round a formula are read in a row: first all of their words, then the formula, then their predicates.
use Rattle.std.proofs.Common.{◌≡◌, ◌≢◌, ℕ, zero, suc, ◌+◌, ◌-◌, ◌<◌, ◌≤◌, Bool, true, false, cond, codes, drop, List, [], ◌∷◌, ◌++◌, None, Some, refl, ap, sym, subst, ◌∙◌, arith}
use Rattle.std.proofs.lemmas.Slice.Eq.{bytes_eq-Decides}
use Rattle.std.specs.Str.{bytes_eq}
use Rattle.script_model.specs.Grammar.{Tree, Freeze}
use Rattle.script_model.specs.Parsing.{Read, then_read, read, is_word, when_front, formula_front, formula_read}
use Rattle.script_model.specs.Tokens.{Token, Word}
use Rattle.line_parser.specs.Reading.{count_of_word, whens_front, frozen_front, unfrozen_front}
use Rattle.line_parser.specs.TreeView.{frozen}

-- ---- reading in turn

then_same : {A B : Type 0} (o : Read A) (f g : A → List Token → Read B) → ((x : A) (rest : List Token) → f x rest ≡ g x rest) → then_read o f ≡ then_read o g
then_same None f g h = refl
then_same (Some p) f g h = h p.0 p.1

then_then : {A B C : Type 0} (o : Read A) (f : A → List Token → Read B) (g : B → List Token → Read C)
    → then_read (then_read o f) g ≡ then_read o (λ x rest. then_read (f x rest) g)
then_then None f g = refl
then_then (Some p) f g = refl

-- ---- predicates

frozen_more : (child : Tree) (names : List (List ℕ)) (name : List ℕ) → frozen child (names ++ name ∷ []) ≡ Freeze (frozen child names) name
frozen_more child [] name = refl
frozen_more child (n ∷ names) name = frozen_more (Freeze child n) names name

-- one freeze more behind so many
one_more : (n : ℕ) (found : List (List ℕ)) (tokens : List Token)
    → whens_front (suc n) found tokens
    ≡ then_read (whens_front n found tokens) (λ names rest. then_read (when_front rest) (λ name left. read (names ++ name ∷ []) left))
unfolding whens_front
one_more zero found tokens = refl
one_more (suc n) found tokens =
    then_same (when_front tokens) _ _ (λ name left. one_more n (found ++ name ∷ []) left)
    ∙ sym (then_then (when_front tokens) (λ name left. whens_front n (found ++ name ∷ []) left)
    (λ names rest. then_read (when_front rest) (λ name left. read (names ++ name ∷ []) left)))

-- one after the other
pub none_more : (n : ℕ) (found : List (List ℕ)) (tokens : List Token) → n ≡ 0 → read found tokens ≡ whens_front n found tokens
unfolding whens_front
none_more n found tokens e = rw e refl

pub next_more : (count index : ℕ) (found : List (List ℕ)) (tokens : List Token) → index < count
    → whens_front (count - index) found tokens ≡ then_read (when_front tokens) (λ name left. whens_front (count - (index + 1)) (found ++ name ∷ []) left)
unfolding whens_front
next_more count index found tokens h = let more : count - index ≡ suc (count - (index + 1)) = omega (arith, h) in rw more refl

-- one step of the loop that reads predicates
module _ (count index : ℕ) (found : List (List ℕ)) (tokens : List Token) (less : index < count) where
  pub one_continued : (name : List ℕ) (rest : List Token) → Some (name, rest) ≡ when_front tokens
      → whens_front (count - (index + 1)) (found ++ name ∷ []) rest ≡ whens_front (count - index) found tokens
  one_continued name rest is = rw (next_more count index found tokens less, ← is) refl

  pub one_missing : None ≡ when_front tokens → None ≡ whens_front (count - index) found tokens
  one_missing none = rw (next_more count index found tokens less, ← none) refl

-- the first apart from the others
behind_found : (n : ℕ) (name : List ℕ) (found : List (List ℕ)) (tokens : List Token)
    → whens_front n (name ∷ found) tokens ≡ then_read (whens_front n found tokens) (λ names rest. read (name ∷ names) rest)
unfolding whens_front
behind_found zero name found tokens = refl
behind_found (suc n) name found tokens =
    then_same (when_front tokens) _ _ (λ next left. behind_found n name (found ++ next ∷ []) left)
    ∙ sym (then_then (when_front tokens) (λ next left. whens_front n (found ++ next ∷ []) left) (λ names rest. read (name ∷ names) rest))

pub none_frozen : (n : ℕ) (child : Tree) (tokens : List Token) → n ≡ 0 → read child tokens ≡ frozen_front n child tokens
unfolding whens_front
none_frozen n child tokens e = rw e refl

pub some_frozen : (n : ℕ) (child : Tree) (tokens : List Token) → n ≢ 0
    → frozen_front n child tokens
    ≡ then_read (when_front tokens) (λ name rest. then_read (whens_front (n - 1) [] rest) (λ names left. read (frozen child (name ∷ names)) left))
unfolding whens_front
some_frozen zero child tokens some = absurd (some refl)
some_frozen (suc n) child tokens some =
    let less : suc n - 1 ≡ n = omega arith in
    rw less (then_then (when_front tokens) (λ name left. whens_front n (name ∷ []) left) (λ names left. read (frozen child names) left)
    ∙ then_same (when_front tokens) _ _ (λ name rest.
    ap (λ o. then_read o (λ names left. read (frozen child names) left)) (behind_found n name [] rest)
    ∙ then_then (whens_front n [] rest) (λ names left. read (name ∷ names) left) (λ names left. read (frozen child names) left)))

-- what stands behind the formula within a freeze
abbrev behind_child : Tree → List Token → Read Tree
behind_child child rest = then_read (when_front rest) (λ predicate left. read (Freeze child predicate) left)

pub frozen_again : (n : ℕ) (child : Tree) (tokens : List Token) → then_read (frozen_front n child tokens) behind_child ≡ frozen_front (suc n) child tokens
frozen_again n child tokens =
    then_then (whens_front n [] tokens) (λ names left. read (frozen child names) left) behind_child
    ∙ (then_same (whens_front n [] tokens) _ _ (λ names left. at names left)
    ∙ (sym (then_then (whens_front n [] tokens)
    (λ names rest. then_read (when_front rest) (λ name left. read (names ++ name ∷ []) left)) (λ names left. read (frozen child names) left))
    ∙ ap (λ o. then_read o (λ names left. read (frozen child names) left)) (sym (one_more n [] tokens))))
  where
    at : (names : List (List ℕ)) (left : List Token)
        → behind_child (frozen child names) left
        ≡ then_read (then_read (when_front left) (λ name left. read (names ++ name ∷ []) left)) (λ names left. read (frozen child names) left)
    at names left = then_same (when_front left) _ _ (λ name rest. ap (λ t. read t rest) (sym (frozen_more child names name)))
        ∙ sym (then_then (when_front left) (λ name left. read (names ++ name ∷ []) left) (λ names left. read (frozen child names) left))

then_none_round : (o : Read Tree) → o ≡ then_read o (frozen_front 0)
then_none_round None = refl
then_none_round (Some p) = none_frozen 0 p.0 p.1 refl

-- ---- the whole

-- a formula that begins with no freeze
unfrozen : (part : List Token → Read Tree) (tokens : List Token) → count_of_word (codes "freeze") tokens ≡ 0
    → formula_front part tokens ≡ unfrozen_front part tokens
unfrozen part (Word w ∷ rest) none = go (bytes_eq (codes "freeze") w) refl none
  where
    other_way : (b : Bool) → bytes_eq (codes "freeze") w ≡ false → bytes_eq w (codes "freeze") ≡ b → b ≡ false
    other_way true e is = let same : w ≡ codes "freeze" = (bytes_eq-Decides w (codes "freeze")).0 is in
        let passes = (bytes_eq-Decides (codes "freeze") w).1 (sym same) in absurd (cc)
    other_way false e is = refl

    go : (b : Bool) → bytes_eq (codes "freeze") w ≡ b → cond b (suc (count_of_word (codes "freeze") rest)) 0 ≡ 0
        → formula_front part (Word w ∷ rest) ≡ unfrozen_front part (Word w ∷ rest)
    go true is none = absurd (omega (arith, none))
    go false is none = rw (other_way (bytes_eq w (codes "freeze")) is refl) refl
unfrozen part tokens none = refl

freeze_begins : (t : Token) → is_word (codes "freeze") t ≡ true → t ≡ Word (codes "freeze")
freeze_begins (Word w) e = ap (λ v. Word v) (sym ((bytes_eq-Decides (codes "freeze") w).0 e))
freeze_begins t e = absurd (cc)

abbrev freezes : List Token → ℕ
freezes tokens = count_of_word (codes "freeze") tokens

pub too_few : (d : ℕ) (tokens : List Token) → d ≤ freezes tokens → formula_read d tokens ≡ None
unfolding formula_read
too_few zero tokens few = refl
too_few (suc d) [] few = absurd (omega (arith, few))
too_few (suc d) (t ∷ rest) few = go (is_word (codes "freeze") t) refl few (too_few d rest)
  where
    go : (b : Bool) → is_word (codes "freeze") t ≡ b → suc d ≤ cond b (suc (freezes rest)) 0 → (d ≤ freezes rest → formula_read d rest ≡ None)
        → formula_read (suc d) (t ∷ rest) ≡ None
    go false is few again = absurd (omega (arith, few))
    go true is few again = let none = again (omega (arith, few)) in rw (freeze_begins t is, none) refl

-- a formula, as its freezes are read in a row
abbrev row_read : ℕ → ℕ → List Token → Read Tree
row_read d n tokens = then_read (unfrozen_front (formula_read (d - n - 1)) (drop n tokens)) (frozen_front n)

pub in_a_row : (d : ℕ) (tokens : List Token) → freezes tokens < d → formula_read d tokens ≡ row_read d (freezes tokens) tokens
unfolding formula_read
in_a_row zero tokens few = absurd (omega (arith, few))
in_a_row (suc d) [] few = refl
in_a_row (suc d) (t ∷ rest) few = go (is_word (codes "freeze") t) refl few (in_a_row d rest)
  where
    go : (b : Bool) → is_word (codes "freeze") t ≡ b → cond b (suc (freezes rest)) 0 < suc d
        → (freezes rest < d → formula_read d rest ≡ row_read d (freezes rest) rest)
        → formula_front (formula_read d) (t ∷ rest) ≡ row_read (suc d) (cond b (suc (freezes rest)) 0) (t ∷ rest)
    go false is few again =
        let less : suc d - 0 - 1 ≡ d = omega arith in
        subst (λ k. formula_front (formula_read d) (t ∷ rest) ≡ then_read (unfrozen_front (formula_read k) (t ∷ rest)) (frozen_front 0)) (sym less)
        (unfrozen (formula_read d) (t ∷ rest) (rw is refl) ∙ then_none_round (unfrozen_front (formula_read d) (t ∷ rest)))
    go true is few again =
        let fewer : freezes rest < d = omega (arith, few) in
        let left : suc d - suc (freezes rest) - 1 ≡ d - freezes rest - 1 = omega arith in
        let row = again fewer in
        rw (freeze_begins t is, row, left)
        (then_then (unfrozen_front (formula_read (d - freezes rest - 1)) (drop (freezes rest) rest)) (frozen_front (freezes rest)) behind_child
        ∙ then_same (unfrozen_front (formula_read (d - freezes rest - 1)) (drop (freezes rest) rest)) _ _ (frozen_again (freezes rest)))
