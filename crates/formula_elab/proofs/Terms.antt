-- The terms of the lines of a page, with what was made.
use Rattle.std.proofs.Common.{◌≡◌, ◌+◌, List, [], ◌∷◌, ◌++◌, length, map, Some, arith, refl, sym, subst, ap, ◌∙◌}
use Rattle.std.proofs.lemmas.List.{length-append, length-map, map-append}
use Rattle.std.specs.List.{slice_get}
use Rattle.std.specs.Option.{unwrap_or}
use Rattle.inc_value.specs.declared.value.Value.{Value}
use Rattle.inc_terms.specs.Term as term
use Rattle.inc_terms.specs.Term.{Functions, Term}
use Rattle.node_arena.specs.Listing.{Listed}
use Rattle.script_functions.specs.Bodies as functions
use Rattle.script_functions.specs.Bodies.{term_at}
use Rattle.script_functions.specs.Lines.{term_of, line_term, terms_after}
use Rattle.script_functions.specs.declared.line.Line.{Line}
use Rattle.script_functions.specs.declared.line.Part.TheVariants as part
use Rattle.script_functions.specs.declared.line.TypedLine.{TypedLine}
use Rattle.formula_elab.specs.Bodies.{line_filled, IsFilled, IsMadeOf, OpenBody}
use Rattle.formula_elab.specs.Make.{function_made}
use Rattle.formula_elab.specs.declared.body.OpenLine.{OpenLine}
use Rattle.formula_elab.specs.declared.make.Made.{Made}
use Rattle.formula_elab.proofs.Lists.{Begins, begins_all, begins_more, begins_then, begins_get, get_there}

-- the terms of lines, after those that stand there
abbrev pub line_terms : List Listed → List Term → List Line → List Term
line_terms listed terms [] = terms
line_terms listed terms (x ∷ xs) = line_terms listed (terms ++ line_term listed terms x ∷ []) xs

plain_terms : (listed : List Listed) (terms : List Term) (xs : List TypedLine)
    → terms_after listed terms xs ≡ line_terms listed terms (map (λ (x : TypedLine). x.line) xs)
plain_terms listed terms [] = refl
plain_terms listed terms (x ∷ xs) = plain_terms listed (terms ++ line_term listed terms x.line ∷ []) xs

terms_push : (listed : List Listed) (terms : List Term) (xs : List Line) (x : Line)
    → line_terms listed terms (xs ++ x ∷ []) ≡ line_terms listed terms xs ++ line_term listed (line_terms listed terms xs) x ∷ []
terms_push listed terms [] x = refl
terms_push listed terms (y ∷ xs) x = terms_push listed (terms ++ line_term listed terms y ∷ []) xs x

terms_begin : (listed : List Listed) (terms : List Term) (xs : List Line) → Begins (line_terms listed terms xs) terms
terms_begin listed terms [] = begins_all terms
terms_begin listed terms (x ∷ xs) =
    let one = terms ++ line_term listed terms x ∷ [] in
    begins_then (line_terms listed one xs) one terms (terms_begin listed one xs) (begins_more terms (line_term listed terms x ∷ []))

terms_behind : (listed : List Listed) (terms : List Term) (xs ys : List Line)
    → Begins (line_terms listed terms (xs ++ ys)) (line_terms listed terms xs)
terms_behind listed terms [] ys = terms_begin listed terms ys
terms_behind listed terms (x ∷ xs) ys = terms_behind listed (terms ++ line_term listed terms x ∷ []) xs ys

terms_size : (listed : List Listed) (terms : List Term) (xs : List Line) → length (line_terms listed terms xs) ≡ length terms + length xs
terms_size listed terms [] = omega arith
terms_size listed terms (x ∷ xs) =
    let rest = terms_size listed (terms ++ line_term listed terms x ∷ []) xs in
    let one = length-append terms (line_term listed terms x ∷ []) in
    omega (arith, rest, one)

module _ (made : List Made) where
  -- the terms of all lines of a page, of a left value
  abbrev pub page_terms : List Listed → Value → List OpenLine → List Term
  page_terms listed v xs = line_terms listed (term.Const v ∷ []) (map (line_filled made) xs)

  pub page_begins : (listed : List Listed) (v : Value) (xs ys : List OpenLine) → Begins ys xs
      → Begins (page_terms listed v ys) (page_terms listed v xs)
  page_begins listed v xs ys h =
      let same : map (line_filled made) ys ≡ map (line_filled made) xs ++ map (line_filled made) h.0 =
      ap (map (line_filled made)) h.1 ∙ map-append (line_filled made) xs h.0 in
      subst (λ zs. Begins (line_terms listed (term.Const v ∷ []) zs) (page_terms listed v xs)) (sym same)
      (terms_behind listed (term.Const v ∷ []) (map (line_filled made) xs) (map (line_filled made) h.0))

  -- line 0 is a constant of the left value
  pub own_term : (listed : List Listed) (v : Value) (xs : List OpenLine) (terms : List Term) → Begins terms (page_terms listed v xs)
      → slice_get terms 0 ≡ Some (term.Const v)
  own_term listed v xs terms h =
      let first = terms_begin listed (term.Const v ∷ []) (map (line_filled made) xs) in
      begins_get terms (term.Const v ∷ []) 0 (term.Const v) (begins_then terms (page_terms listed v xs) (term.Const v ∷ []) h first) refl

  -- the last line reads as its term over those before it
  pub last_term : (listed : List Listed) (v : Value) (xs : List OpenLine) (x : OpenLine) (terms : List Term)
      → Begins terms (page_terms listed v (xs ++ x ∷ []))
      → term_of listed terms (part.Line (length xs + 1)) ≡ line_term listed (page_terms listed v xs) (line_filled made x)
  last_term listed v xs x terms h =
      ap (λ o. unwrap_or o (term.Cap 0)) at
    where
      pushed : page_terms listed v (xs ++ x ∷ [])
          ≡ page_terms listed v xs ++ line_term listed (page_terms listed v xs) (line_filled made x) ∷ []
      pushed = ap (line_terms listed (term.Const v ∷ [])) (map-append (line_filled made) xs (x ∷ []))
          ∙ terms_push listed (term.Const v ∷ []) (map (line_filled made) xs) (line_filled made x)

      size : length (page_terms listed v xs) ≡ length xs + 1
      size =
          let all = terms_size listed (term.Const v ∷ []) (map (line_filled made) xs) in
          let mapped = length-map xs (line_filled made) in
          omega (arith, all, mapped)

      at : slice_get terms (length xs + 1) ≡ Some (line_term listed (page_terms listed v xs) (line_filled made x))
      at = subst (λ i. slice_get terms i ≡ Some (line_term listed (page_terms listed v xs) (line_filled made x))) size
          (begins_get terms (page_terms listed v xs ++ line_term listed (page_terms listed v xs) (line_filled made x) ∷ [])
          (length (page_terms listed v xs)) (line_term listed (page_terms listed v xs) (line_filled made x))
          (subst (Begins terms) pushed h)
          (get_there (page_terms listed v xs) [] (line_term listed (page_terms listed v xs) (line_filled made x))))

  -- what a body that is filled makes of a left value
  body_term : (o : OpenBody) (b : functions.Body) → IsFilled made o b → (v : Value)
      → term_at b v ≡ term_of o.page.listed (page_terms o.page.listed v o.page.lines) o.root
  body_term o b h v =
      ap (λ ts. term_of b.draft.listed ts b.root)
      (plain_terms b.draft.listed (term.Const v ∷ []) b.draft.lines ∙ ap (line_terms b.draft.listed (term.Const v ∷ [])) h.lines)
      ∙ (ap (λ ids. term_of ids (page_terms ids v o.page.lines) b.root) h.listed
      ∙ ap (term_of o.page.listed (page_terms o.page.listed v o.page.lines)) h.root)

  -- and so does the function that was made of it
  pub made_term : (H : Functions) (o : OpenBody) (m : Made) → IsMadeOf H made o m → (v : Value)
      → H.term (function_made m) v ≡ term_of o.page.listed (page_terms o.page.listed v o.page.lines) o.root
  made_term H o m h v = h.terms v ∙ body_term o h.body h.filled v
