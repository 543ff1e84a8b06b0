-- What a file adds to a book, and file after file.
use Rattle.std.proofs.Common.{◌≡◌, ◌∙◌, ℕ, zero, suc, ◌+◌, ◌<◌, ◌≤◌, List, [], ◌∷◌, ◌++◌, length, take, Option, Some, None, get_or, refl, sym, ap, subst, arith}
use Rattle.std.proofs.lemmas.List.{take_all, take_more}
use Rattle.std.proofs.lemmas.List.Sums.{sum_by-append, sum_by-cons}
use Rattle.std.specs.List.{sum_by}
use Rattle.no_faults.specs.domain_base.declared.place.Home.{Home}
use Rattle.no_faults.specs.fileset_shapes.declared.found.TaggedFile.{TaggedFile}
use Rattle.no_faults.specs.quota_book.Book.{Book}
use Rattle.attached_domain.specs.Counted.{Counts, CountsAll, blocks_of, files_of, pages_there}

-- ---- pages

-- no more pages are there than homes
pub few_there : (homes : List (Option Home)) (n : ℕ) → pages_there (take n homes) ≤ length homes
few_there [] zero = omega arith
few_there [] (suc n) = omega arith
few_there (h ∷ homes) zero = omega arith
few_there (None ∷ homes) (suc n) = let rest = few_there homes n in omega (arith, rest)
few_there (Some home ∷ homes) (suc n) = let rest = few_there homes n in omega (arith, rest)

-- ---- file after file

pub none_counted : (book : Book) → CountsAll [] book book
none_counted book = record { files_used = λ who. omega arith; blocks_used = λ who. omega arith; limits = refl }

one_sum : (f : TaggedFile → ℕ) (files : List TaggedFile) (file : TaggedFile) → sum_by f (files ++ file ∷ []) ≡ sum_by f files + f file
one_sum f files file = let a = sum_by-append f files (file ∷ []) in let b = sum_by-cons f file [] in omega (arith, a, b)

more_counted : (files : List TaggedFile) (file : TaggedFile) (old middle new : Book) → CountsAll files old middle → Counts file middle new → CountsAll (files ++ file ∷ []) old new
more_counted files file old middle new all one = record {
  files_used = λ who. let a = all.files_used who in let b = one.files who in let c = one_sum (files_of who) files file in omega (arith, a, b, c);
  blocks_used = λ who. let a = all.blocks_used who in let b = one.blocks who in let c = one_sum (blocks_of who) files file in omega (arith, a, b, c);
  limits = one.limits ∙ all.limits;
}

pub counted_on : (files : List TaggedFile) (n : ℕ) (file : TaggedFile) (old middle new : Book) → n < length files → get_or files n file ≡ file → CountsAll (take n files) old middle → Counts file middle new
    → CountsAll (take (n + 1) files) old new
counted_on files n file old middle new within is all one =
    subst (λ (fs : List TaggedFile). CountsAll fs old new) (sym (take_more files n file within ∙ ap (λ (f : TaggedFile). take n files ++ f ∷ []) is))
    (more_counted (take n files) file old middle new all one)

pub counted_all : (files : List TaggedFile) (n : ℕ) (old new : Book) → length files ≤ n → CountsAll (take n files) old new → CountsAll files old new
counted_all files n old new past all = subst (λ (fs : List TaggedFile). CountsAll fs old new) (take_all n files past) all
