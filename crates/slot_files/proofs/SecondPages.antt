-- Whether two pages have a home.
use Rattle.std.proofs.Common.{◌≡◌, ◌↔◌, ℕ, ◌+◌, ◌<◌, ◌≤◌, Bool, true, false, List, length, Option, Some, None, IsSome, slice_get, refl, sym, subst, arith, ⊎_elim}
use Rattle.std.specs.Option.{option_and_then}
use Rattle.std.proofs.lemmas.Bool.{cases_lt}
use mathlib.Core.Bool.{false≢true}
use Rattle.std.proofs.lemmas.Option.{slice_get_within}
use Rattle.index_row_faults.specs.domain_layout.DirectoryRules.{HasSecondPage}
use Rattle.index_row_faults.specs.domain_layout.Seen.{SeenFile}
use Rattle.slot_files.specs.Said.{HasTwo, home_said, said_in}
use Rattle.slot_files.specs.declared.said.SaidHome.{SaidHome}

module _ (homes : List (Option SaidHome)) where
  abbrev HasHome : ℕ → Type 0
  HasHome page = IsSome (said_in homes page)

  -- whether one of the first pages has a home, and that no two of them have
  pub record IsOneBefore (number : ℕ) (has_one : Bool) : Type 0 where
    pub one : has_one ≡ true → (k : ℕ) × (k < number) × HasHome k
    pub none : has_one ≡ false → (k : ℕ) → k < number → ¬ HasHome k
    pub most : (j k : ℕ) → j < number → k < number → HasHome j → HasHome k → j ≡ k

  pub one_none : IsOneBefore 0 false
  one_none = record {
    one = λ is. absurd (false≢true is);
    none = λ is k below. absurd (omega (arith, below));
    most = λ j k below also. absurd (omega (arith, below));
  }

  pub has_none : (number : ℕ) (has_one : Bool) → IsOneBefore number has_one → ¬ HasHome number → IsOneBefore (number + 1) has_one
  has_none number has_one are other = record {
    one = λ is. let (k, below, has) = are.one is in (k, omega (arith, below), has);
    none = λ is k below has. ⊎_elim (λ low. are.none is k low has) (λ far. other (subst HasHome (at_end k below far) has)) (cases_lt k number);
    most = λ j k below also has too. are.most j k (low j below has) (low k also too) has too;
  }
    where
      at_end : (k : ℕ) → k < number + 1 → number ≤ k → k ≡ number
      at_end k below far = omega (arith, below, far)

      low : (k : ℕ) → k < number + 1 → HasHome k → k < number
      low k below has = ⊎_elim (λ less. less) (λ far. absurd (other (subst HasHome (at_end k below far) has))) (cases_lt k number)

  pub has_first : (number : ℕ) → IsOneBefore number false → HasHome number → IsOneBefore (number + 1) true
  has_first number are here = record {
    one = λ is. (number, omega arith, here);
    none = λ is. absurd (false≢true (sym is));
    most = λ j k below also has too. omega (arith, below, also, far j has, far k too);
  }
    where
      far : (k : ℕ) → HasHome k → number ≤ k
      far k has = ⊎_elim (λ low. absurd (are.none refl k low has)) (λ high. high) (cases_lt k number)

  pub has_second : (number : ℕ) → IsOneBefore number true → HasHome number → HasTwo homes
  has_second number are here =
      let (k, below, has) = are.one refl in
      (k, number, (λ same. absurd (omega (arith, same, below))), has, here)

  pub not_two : (number : ℕ) (has_one : Bool) → length homes ≤ number → IsOneBefore number has_one → ¬ HasTwo homes
  not_two number has_one whole are (one, other, apart, has, too) = apart (are.most one other (inside one has) (inside other too) has too)
    where
      inside : (k : ℕ) → HasHome k → k < number
      inside k has = by_home (slice_get homes k) refl has
        where
          by_home : (o : Option (Option SaidHome)) → slice_get homes k ≡ o → IsSome (option_and_then home_said o) → k < number
          by_home None there some = absurd (false≢true some)
          by_home (Some home) there some = omega (arith, whole, slice_get_within homes k home there)

-- the rule of the file whose pages have these homes
pub second_page : (seen : SeenFile) (homes : List (Option SaidHome)) → ((page : ℕ) → said_in homes page ≡ seen.homes page) → HasTwo homes ↔ HasSecondPage seen
second_page seen homes same = (
  λ (a, b, apart, first, second). (a, b, apart, subst IsSome (same a) first, subst IsSome (same b) second),
  λ (a, b, apart, first, second). (a, b, apart, subst IsSome (sym (same a)) first, subst IsSome (sym (same b)) second),
)
