-- What the functions of a script give, and those of its graph.
use Rattle.std.proofs.Common.{◌≡◌, ℕ, List, [], ◌∷◌, map, Option, refl, ap, ◌∙◌}
use Rattle.std.proofs.Math.Path.{fun_ext}
use Rattle.inc_value.specs.declared.function.FnRef.{FnRef}
use Rattle.inc_value.specs.declared.node.NodeId.{NodeId}
use Rattle.inc_value.specs.declared.value.Value.{Value as GraphValue}
use Rattle.inc_value.specs.declared.value.Value.TheVariants as held
use Rattle.node_arena.specs.Meanings.{SameNames, SameValues}
use Rattle.script_model.specs.Formula.{Meanings, meanings_of}
use Rattle.script_model.specs.Values.{Value, Int, Bool, Text, Reference, to_engine, from_engine, unnamed, unreferred, seen_value}
use Rattle.node_arena.specs.RightSideLaws.{meaning}
use Rattle.script_functions.specs.Bodies.{Body}
use Rattle.script_functions.specs.Keeping.{makers, side_in}
use Rattle.script_graph.specs.Growing.{functions_over}
use Rattle.script_graph.specs.Represents.{graph_functions}
use Rattle.transfer.specs.Both.{graph_value}
use Rattle.transfer.specs.Shows.{FunctionsFit}

-- ---- values there and back

back : (w : GraphValue) → to_engine (from_engine (unreferred w)) ≡ unreferred w
back (held.Int z) = refl
back (held.Bool b) = refl
back (held.Text bytes) = refl
back (held.Node id base) = refl

hidden : (w : GraphValue) → unnamed (to_engine (from_engine w)) ≡ unnamed w
hidden (held.Int z) = refl
hidden (held.Bool b) = refl
hidden (held.Text bytes) = refl
hidden (held.Node id base) = refl

hidden_all : (ws : List GraphValue) → map unnamed (map to_engine (map from_engine ws)) ≡ map unnamed ws
hidden_all [] = refl
hidden_all (w ∷ ws) = rw (hidden w, hidden_all ws) refl

shown_back : (nodes : ℕ → NodeId) (w : GraphValue) → to_engine (from_engine (unreferred w)) ≡ graph_value nodes (from_engine (unreferred w))
shown_back nodes (held.Int z) = refl
shown_back nodes (held.Bool b) = refl
shown_back nodes (held.Text bytes) = refl
shown_back nodes (held.Node id base) = refl

shown_hidden : (nodes : ℕ → NodeId) (v : Value) → unnamed (to_engine (from_engine (graph_value nodes v))) ≡ unnamed (to_engine v)
shown_hidden nodes (Int z) = refl
shown_hidden nodes (Bool b) = refl
shown_hidden nodes (Text bytes) = refl
shown_hidden nodes (Reference target base) = refl

shown_hidden_all : (nodes : ℕ → NodeId) (vs : List Value)
    → map unnamed (map to_engine (map from_engine (map (graph_value nodes) vs))) ≡ map unnamed (map to_engine vs)
shown_hidden_all nodes [] = refl
shown_hidden_all nodes (v ∷ vs) = rw (shown_hidden nodes v, shown_hidden_all nodes vs) refl

-- ---- functions

module _ (named : List ℕ → Option FnRef) (value : FnRef → List GraphValue → GraphValue) where
  value_same : (f : FnRef) (ws : List GraphValue)
      → to_engine (from_engine (seen_value value f (map to_engine (map from_engine ws)))) ≡ seen_value value f ws
  value_same f ws = back (value f (map unnamed (map to_engine (map from_engine ws))))
      ∙ ap (λ (xs : List GraphValue). unreferred (value f xs)) (hidden_all ws)

  -- the graph's functions give what those of the library give, for values whose nodes they don't see
  pub functions_are : (bodies : List Body) → graph_functions (meanings_of named value) bodies ≡ functions_over value bodies
  functions_are bodies = ap (λ (g : FnRef → List GraphValue → GraphValue). meaning g (side_in (makers bodies))) (fun_ext (λ f. fun_ext (λ ws. value_same f ws)))

  -- they give what those of the script give
  pub functions_fit : (bodies : List Body) → FunctionsFit (meanings_of named value) (graph_functions (meanings_of named value) bodies)
  functions_fit bodies nodes f vs = shown_back nodes (value f (map unnamed (map to_engine (map from_engine (map (graph_value nodes) vs)))))
      ∙ ap (λ (xs : List GraphValue). graph_value nodes (from_engine (unreferred (value f xs)))) (shown_hidden_all nodes vs)

-- ---- over time

-- meanings by what functions are seen to give
abbrev seen_meanings : (List ℕ → Option FnRef) → (FnRef → List GraphValue → GraphValue) → Meanings
seen_meanings named seen = record { named = named; value = λ f values. from_engine (seen f (map to_engine values)) }

-- where names stand for what they stood for, and functions are seen to give what they gave, the meanings are the same
pub same_meanings : (named named' : List ℕ → Option FnRef) (value value' : FnRef → List GraphValue → GraphValue) → SameNames named named'
    → SameValues (seen_value value) (seen_value value') → meanings_of named' value' ≡ meanings_of named value
same_meanings named named' value value' names values =
    ap (λ (n : List ℕ → Option FnRef). seen_meanings n (seen_value value')) (fun_ext names)
    ∙ ap (λ (v : FnRef → List GraphValue → GraphValue). seen_meanings named v) (fun_ext (λ f. fun_ext (values f)))
