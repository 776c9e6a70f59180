-- What is kept before the first line.
use Rattle.std.proofs.Common.{◌≡◌, ℕ, ◌≤◌, pos, List, [], length, Option, None, Some, refl, ap, sym, ◌∙◌, arith}
use Rattle.std.proofs.lemmas.Option.{none-some}
use Rattle.graph.specs.Standing.{GraphView, IsUnbroken, cutoff_of, graph}
use Rattle.inc_value.specs.declared.function.FnRef.{FnRef}
use Rattle.inc_value.specs.declared.node.NodeId.{NodeId}
use Rattle.inc_value.specs.declared.value.Value.{Value as GraphValue}
use Rattle.inc_terms.specs.Need.{Holder, Observing, Freezing}
use Rattle.map_nodes.specs.declared.cutoff.Cutoff.TheVariants.{Equal}
use Rattle.node_arena.specs.Arena.{row_at}
use Rattle.script_model.specs.Formula.{Meanings, meanings_of, start}
use Rattle.script_model.specs.Step.{first_moment}
use Rattle.script_model.specs.Valid.{KeepToTypes}
use Rattle.script_model.proofs.Validity.{start_is_valid}
use Rattle.script_graph.specs.Kept.{Kept}
use Rattle.script_graph.specs.Represents.{beside, Represents}
use Rattle.script_graph.specs.Settled.{root_of, Settled}
use Rattle.script_graph.specs.Sound.{IsSoundSession}
use Rattle.script_graph.specs.State.{Stands}
use Rattle.script_graph.proofs.Frozen.{root_is_unfrozen}
use Rattle.script_graph.proofs.Functions.{functions_fit}
use Rattle.transfer.specs.Shows.{Fits}
use Rattle.script_graph.proofs.Held.{looked_within, rooted_looks}

-- what is kept over a graph without nodes and observers
abbrev pub first_kept : GraphView (Unit {0}) → Kept
first_kept g = record {
  names = record { declared = []; observers = []; now = 0 };
  nodes = [];
  observers = [];
  room = 1048575;
  accepted = 0;
  broken = None;
  bodies = [];
  graph = g;
}

module _ (g : GraphView (Unit {0})) (nodes : (n : NodeId) → row_at g.nodes n ≡ None) (observers : g.observers ≡ []) where
  pub first_sound : IsUnbroken g → g.nodes.time ≡ pos 0 → IsSoundSession (first_kept g)
  first_sound unbroken time = record {
    one_node_each = refl;
    has_nodes = λ n d is. absurd (cc);
    few = record { tops = []; given = λ n among. absurd among; all = λ n r is scope. absurd (none-some r (sym (nodes n) ∙ is)); weight = omega arith };
    one_observer_each = refl;
    looking = λ o among. absurd among;
    apart = tt;
    unbroken = λ e. unbroken;
    clock = time;
  }

  module _ (named : List ℕ → Option FnRef) (value : FnRef → List GraphValue → GraphValue) (time : g.nodes.time ≡ pos 0) where
    abbrev F : Meanings
    F = meanings_of named value

    first_represents : Represents F start (first_kept g)
    first_represents = record {
      room = refl;
      clock = time;
      one_node_each = refl;
      declares = λ n. (nodes _, refl);
      targets = λ n e is. absurd (cc);
      apart = λ i j d e at_i at_j own_i own_j same. absurd (cc);
      built = λ n left body is. absurd (cc);
      refers = λ n o is. absurd (cc);
      grabs = λ n b v left t kept is. absurd (cc);
      today = record {
        plain = λ n body is. absurd (cc);
        aged = λ n b is. absurd (cc);
        freezes = λ n r kid f row def. absurd (none-some r (sym (nodes n) ∙ row));
      };
    }

    no_root : (holder : Holder) (n : NodeId) → root_of g holder ≡ Some n → ⊥
    no_root (Observing o) n root =
        let low = looked_within g.observers o.0 n (rooted_looks g o n root).1 in
        let none = ap length observers in omega (arith, low, none)
    no_root (Freezing f) n root = let u = (root_is_unfrozen g f n root).0 in none-some u.row (sym (nodes f) ∙ u.is_row)

    first_fits : Fits (beside F start (first_kept g))
    first_fits = record {
      clock = time;
      functions = functions_fit named value [];
      declared = first_represents.declares;
      resolved = λ n t kept is. absurd (cc);
      rooted = λ b r l f caps w row def built. absurd (none-some r (sym (nodes b) ∙ row));
      grabbed = λ n b v is. absurd (cc);
    }

    first_settled : g.since ≤ g.nodes.given → ((n : NodeId) → cutoff_of g n ≡ Equal) → Settled F start start (first_kept g)
    first_settled past cutoff = record {
      nodes = [];
      bodies = [];
      left = graph g;
      one_node_each = refl;
      fits = first_fits;
      scopes = λ n r b is scope. absurd (none-some r (sym (nodes n) ∙ is));
      still = record {
        formulas = λ owner path f is. is;
        bodies = λ n b has is. is;
        targets = λ n e is. (e, is, refl);
        names = λ n e is. refl;
        rows = λ n r u is def. is;
        freezes = λ n r kid f is def. is;
        lives = λ n r is. (r, is);
        built = λ b r is. refl;
      };
      built = λ n r b is scope. absurd (none-some r (sym (nodes n) ∙ is));
      grabs = λ n b v is. absurd (cc);
      links = λ p q held link. absurd (no_root held.holder held.node held.is_root);
      stamps = λ n. omega arith;
      marks = λ v n visit need at stale same. absurd need.1;
      freezes = λ f n root. absurd (no_root (Freezing f) n root);
      past = past;
      ran = λ v visit need. absurd need.1;
      watched = λ x among is. absurd among;
      today = record { plain = λ n body is. absurd (cc); targets = λ n e is. absurd (cc); equal = cutoff };
    }

    pub first_stands : g.since ≤ g.nodes.given → ((n : NodeId) → cutoff_of g n ≡ Equal) → KeepToTypes F → Stands F (first_kept g) first_moment
    first_stands past cutoff keep = record {
      keep = keep;
      valid = start_is_valid F;
      matches = record {
        names = record { declared = refl; now = refl; in_use = λ name. refl };
        accepted = refl;
        broken = refl;
        represents = λ whole. first_represents;
        watches = record {
          made = [];
          one_each = sym (rw observers refl);
          in_order = refl;
          ended = λ o is. absurd (cc);
          observing = λ o x is. absurd (cc);
          named = λ i o name is at. absurd (cc);
          apart = λ o p x y at also same. absurd (cc);
        };
        settled = λ whole. first_settled past cutoff;
      };
    }
