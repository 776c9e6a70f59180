use Rattle.std.proofs.Common.{◌≡◌, List, [], ◌∷◌, inl, inr, refl, sym, subst, ap}
use Rattle.inc_value.specs.Sig.{Signature}
use Rattle.inc_value.specs.declared.function.FnRef.{FnRef}
use Rattle.inc_value.specs.declared.function.FnKind.TheVariants as kind
use Rattle.inc_value.specs.declared.ty.Base.TheVariants as base
use Rattle.inc_value.specs.declared.ty.Ty.{Ty}
use Rattle.inc_value.specs.declared.ty.Ty.TheVariants as ty
use Rattle.inc_value.specs.declared.value.Value.{Value}
use Rattle.inc_terms.specs.Term.{Cap, End, More}
use Rattle.inc_terms.specs.Within.{TermWithin}
use Rattle.node_arena.specs.Building.{IsListed}
use Rattle.node_arena.specs.Listing.{IsNamed}
use Rattle.node_arena.specs.RightSide.{SideHas, TermHas, TermsHave}
use Rattle.closure_examples.specs.declared.table.Entry.{Entry}
use Rattle.closure_examples.specs.declared.table.Entry.TheVariants.{Five, Negation, Double, Choice, Target, Nested, Clock, Stepped, Switched, Zero}
use Rattle.closure_examples.specs.Arithmetic.{int_to_int, ints_to_int}
use Rattle.closure_examples.specs.Sides.{entry_of, table_term, table_uses}
use Rattle.closure_examples.proofs.Making.{is_listed}
use Rattle.closure_examples.proofs.table.TableRhsFn.sig.Goals as goal

module _ (neg add of_left : FnRef) (v : Value) where
  names : neg.id.kind ≡ kind.Map → add.id.kind ≡ kind.Map → of_left.id.kind ≡ kind.Rhs → (e : Entry)
      → TermWithin (IsNamed [] v) (IsListed (table_uses neg add of_left)) (table_term neg add of_left e)
  names n a o Five = tt
  names n a o Negation = (is_listed (table_uses neg add of_left) kind.Map neg 0 (inl refl) n, (tt, tt))
  names n a o Double =
      (is_listed (table_uses neg add of_left) kind.Map add 0 (inr (inl refl)) a, tt, (tt, (tt, tt)))
  names n a o Choice = (tt, tt, tt)
  names n a o Target = tt
  names n a o Nested =
      (is_listed (table_uses neg add of_left) kind.Rhs of_left 2 (inr (inr (inl refl))) o, tt, tt)
  names n a o Clock = tt
  names n a o Stepped = (tt, (tt, tt))
  names n a o Switched = (tt, tt, tt)
  names n a o Zero = tt

  abbrev captures : List Ty
  captures = ty.Int ∷ ty.Bool ∷ ty.Node base.Int ∷ []

  types : neg.sig ≡ int_to_int → add.sig ≡ ints_to_int → of_left.sig ≡ int_to_int → (e : Entry)
      → TermHas (SideHas [] v) captures (table_term neg add of_left e) ty.Int
  types n a o Five = record { type = refl; reference = tt }
  types n a o Negation =
      subst (λ (s : Signature). (s.gives ≡ ty.Int) × TermsHave (SideHas [] v) captures (More (Cap 0) End) s.takes)
      (sym n) (refl, (refl, tt))
  types n a o Double = (
    ty.Int,
    ap (λ (s : Signature). s.gives) a,
    ap (λ (s : Signature). s.takes) a,
    record { type = refl; reference = tt },
    (refl, (refl, tt)),
  )
  types n a o Choice = (refl, refl, record { type = refl; reference = tt })
  types n a o Target = (base.Int, refl, refl)
  types n a o Nested =
      (ty.Int, [], ap (λ (s : Signature). s.gives) o, ap (λ (s : Signature). s.takes) o, refl, tt)
  types n a o Clock = refl
  types n a o Stepped = (record { type = refl; reference = tt }, (record { type = refl; reference = tt }, tt))
  types n a o Switched = (refl, record { type = refl; reference = tt }, record { type = refl; reference = tt })
  types n a o Zero = record { type = refl; reference = tt }

pub returns-clause-lawful : goal.returns-clause-lawful
returns-clause-lawful c =
    let s = c.args.self.now in
    record {
      names = λ v. names s.neg s.add s.of_left v s.neg_map s.add_map s.of_left_rhs (entry_of v);
      types = λ v proper e. types s.neg s.add s.of_left v s.neg_types s.add_types s.of_left_types (entry_of v);
    }
