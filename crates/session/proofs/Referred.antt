-- The name that is printed of a reference is that of the declaration that it is to.
use Rattle.std.proofs.Common.{◌≡◌, inl, inr, ℕ, zero, suc, List, [], ◌∷◌, map, slice_get, Option, None, Some, option_map, refl, sym, ◌∙◌, ap}
use Rattle.std.proofs.lemmas.Option.{slice_get-map}
use Rattle.inc_value.specs.Outcome as engine
use Rattle.script_model.specs.Check.{Declared, Names, declared_of, names_of, target_of_body}
use Rattle.script_model.specs.Formula.{Entry, Meanings, State, entry_at}
use Rattle.script_model.specs.Step.{Moment, name_of}
use Rattle.script_model.specs.Values as values
use Rattle.script_model.specs.Values.{Outcome, Val, Invalid, Int, Text, Reference, printed_outcome}
use Rattle.script_graph.specs.Kept.{Kept, node_in}
use Rattle.script_graph.specs.Represents.{AreNames}
use Rattle.script_graph.specs.State.{MatchesMoment}
use Rattle.script_graph.specs.Today.{IsDeclaredTarget, RefersTo}
use Rattle.script_graph.proofs.Declaring.{named_entry}
use Rattle.transfer.specs.Both.{graph_outcome}
use Rattle.transfer.proofs.Commands.{own_target}
use Rattle.transfer.proofs.Typed.{body_entry}
use Rattle.session.specs.Replies.{IsOwnNode, IsReferredName, name_in, referred_node}

-- the name at a position is that of the entry there
name_of_entry : (es : List Entry) (n : ℕ) → ◌≡◌ {A = List ℕ} (elim (slice_get (map declared_of es) n) [ None ↦ [] | Some d ↦ d.name ])
    (elim (slice_get es n) [ None ↦ [] | Some e ↦ e.name ])
name_of_entry [] n = refl
name_of_entry (e ∷ es) zero = refl
name_of_entry (e ∷ es) (suc n) = name_of_entry es n

pub name_there : (names : Names) (s : State) (n : ℕ) → AreNames names s → name_in names n ≡ name_of s n
name_there names s n are =
    let declared : name_in names n ≡ name_in (names_of s) n = ap (λ (ds : List Declared). name_in (record names { declared = ds }) n) are.declared in
    declared ∙ name_of_entry s.entries n

module _ (F : Meanings) (k : Kept) (m : Moment) (matches : MatchesMoment F k m) (unbroken : m.broken ≡ None) where
  abbrev s : State
  s = m.present

  -- the declaration that a reference is to stands for itself, and has its node
  module _ (t : ℕ) (own : IsDeclaredTarget s t) where
    entry : (e : Entry) × (entry_at s t ≡ Some e) × (e.body ≡ own.0)
    entry = body_entry s t own.0 own.1

    its_target : entry.0.target ≡ t
    its_target = (matches.represents unbroken).targets t entry.0 entry.1 ∙ (ap (target_of_body t) entry.2 ∙ own_target t own.0 own.2)

    itself : IsOwnNode k.names k.nodes (node_in k.nodes t) t
    itself = record {
      declared = declared_of entry.0;
      is_declared = ap (λ (ds : List Declared). slice_get ds t) matches.names.declared
          ∙ (slice_get-map declared_of s.entries t ∙ ap (λ (o : Option Entry). option_map declared_of o) entry.1);
      own = its_target;
      is_node = refl;
    }

    -- it is the one whose name is told
    same_position : (position : ℕ) → IsOwnNode k.names k.nodes (node_in k.nodes t) position → position ≡ t
    same_position position is =
        let e = named_entry k.names s matches.names.declared position is.declared is.is_declared in
        (matches.represents unbroken).apart position t e.0 entry.0 e.1 entry.1 (ap (λ (d : Declared). d.target) e.2 ∙ is.own) its_target is.is_node

    pub referred_is : (bytes : List ℕ) → IsReferredName k.names k.nodes (Some (node_in k.nodes t)) bytes → bytes ≡ name_of s t
    referred_is bytes (inl (position, is, name)) =
        name ∙ (name_there k.names s position matches.names ∙ ap (name_of s) (same_position position is))
    referred_is bytes (inr (none, empty)) = absurd (none t itself)

  -- an outcome prints the same in the model, where the name of what it refers to is told
  pub printed_same : (referred : List ℕ) (p : Outcome) → RefersTo (IsDeclaredTarget s) p
      → IsReferredName k.names k.nodes (referred_node (graph_outcome (node_in k.nodes) p)) referred
      → printed_outcome (name_of s) p ≡ engine.printed_outcome referred (graph_outcome (node_in k.nodes) p)
  printed_same referred (Val (Int z)) refers told = refl
  printed_same referred (Val (values.Bool b)) refers told = refl
  printed_same referred (Val (Text bytes)) refers told = refl
  printed_same referred (Val (Reference n b)) refers told = sym (ap (λ (l : List ℕ). 38 ∷ l) (referred_is n refers referred told))
  printed_same referred Invalid refers told = refl
