-- A file that is cut, with zeros behind its end.
use Rattle.std.proofs.Common.{◌≡◌, ◌∙◌, ℕ, ◌-◌, ◌*◌, ◌/◌, ◌%◌, Bool, cond, List, Option, Some, None, nat_eq, nat_lt, refl, sym, ap, subst, ⊎_elim}
use Rattle.std.proofs.lemmas.Bool.{cases_eq, eq-eqb, ne_eqb}
use Rattle.std.specs.Cmp.{nat_cmp_total}
use Rattle.std.specs.FinMap.{get, insert, retain_keys, nat_cmp-IsAntisymmetric}
use Rattle.std.specs.Option.{option_map, option_map_or}
use Rattle.standing_laws.specs.domain_base.Page.{overwritten, zero_bytes}
use Rattle.standing_laws.specs.domain_base.declared.place.Home.{Home}
use Rattle.standing_laws.specs.fileset_files.State.{FileState}
use Rattle.standing_laws.specs.fileset_files.States.{IsStaleFrom, cut}
use Rattle.standing_laws.specs.fileset_model.Apply.{truncated_node}
use Rattle.standing_laws.specs.fileset_model.Pages.{Pages, truncated}
use Rattle.standing_laws.specs.fileset_model.declared.node.Node.{Node}
use Rattle.standing_laws.specs.fileset_model.declared.node.Node.TheVariants.{Directory, File}
use Rattle.standing_laws.proofs.OfFilesetValues.MapLemmas.{get-insert_same, get-insert_other}
use Rattle.standing_laws.specs.domain_layout.Filled.{Contents, IsFilled}
use Rattle.standing_laws.specs.domain_layout.Seen.{SeenFile}
use Rattle.set_standing.specs.Commands.{ClearsBehind, page_at, zeros_behind}
use Rattle.set_standing.specs.Nodes.{cut_to, seen_of, with_page}
use Rattle.set_standing.proofs.Cut.{cut_is}

-- one page of a map exchanged, if it is there
module _ (change : List ℕ → List ℕ) (last : ℕ) (kept : Pages) where
  abbrev exchanged : Option (List ℕ) → Pages
  exchanged found = option_map_or (λ page. insert kept last (change page)) found kept

  get-last : (found : Option (List ℕ)) → get kept last ≡ found → get (exchanged found) last ≡ option_map change found
  get-last None is = is
  get-last (Some page) is = get-insert_same nat_cmp_total nat_cmp-IsAntisymmetric kept last (change page)

  get-rest : (found : Option (List ℕ)) (q : ℕ) → (q ≡ last → ⊥) → get (exchanged found) q ≡ get kept q
  get-rest None q other = refl
  get-rest (Some page) q other = get-insert_other nat_cmp_total nat_cmp-IsAntisymmetric kept last (change page) q other

  get-exchanged : (q : ℕ) → get (exchanged (get kept last)) q ≡ option_map (λ bytes. cond (nat_eq q last) (change bytes) bytes) (get kept q)
  get-exchanged q = ⊎_elim
      (λ same. subst (λ p. get (exchanged (get kept last)) p ≡ option_map (λ bytes. cond (nat_eq p last) (change bytes) bytes) (get kept p)) (sym same)
      (get-last (get kept last) refl ∙ (λ i. option_map (λ bytes. cond (sym (eq-eqb last last refl) i) (change bytes) bytes) (get kept last))))
      (λ other. get-rest (get kept last) q other ∙ sym (as_it_was (get kept q)) ∙ (λ i. option_map (λ bytes. cond (sym (ne_eqb q last other) i) (change bytes) bytes) (get kept q)))
      (cases_eq q last)
    where
      as_it_was : (o : Option (List ℕ)) → option_map (λ bytes. bytes) o ≡ o
      as_it_was None = refl
      as_it_was (Some bytes) = refl

module _ (contents now : Contents) (seen : SeenFile) (size : ℕ) (clears : ClearsBehind size contents now seen) where
  cleared : (q : ℕ) (place : Option Home) → seen.homes q ≡ place → option_map (zeros_behind size q) (option_map contents place) ≡ option_map now place
  cleared q None at = refl
  cleared q (Some home) at = ap Some (sym (clears q home at))

  pub each_truncated : (pages : Pages) → ((q : ℕ) → get (retain_keys pages (λ p. nat_lt (p * 8192) size)) q ≡ option_map contents (seen.homes q)) → (q : ℕ) →
      get (truncated pages size) q ≡ option_map now (seen.homes q)
  each_truncated pages was q =
      get-exchanged (λ page. overwritten page (size % 8192) (zero_bytes (8192 - size % 8192))) (size / 8192) (retain_keys pages (λ p. nat_lt (p * 8192) size)) q
      ∙ ap (option_map (zeros_behind size q)) (was q)
      ∙ cleared q (seen.homes q) refl

pub truncated_is : (contents now : Contents) (state : FileState) (size : ℕ) (keep : Option ℕ) (node : Node) → IsStaleFrom size state keep →
    ClearsBehind size contents now (seen_of (cut size keep state)) → IsFilled contents (seen_of state) node → IsFilled now (seen_of (cut size keep state)) (truncated_node size node)
truncated_is contents now state size keep (File uid gid old logged pages) stale clears was =
    let one = cut_is contents state size keep (File uid gid old logged pages) stale was in
    (one.0, one.1, one.2, one.3, one.4, each_truncated contents now (seen_of (cut size keep state)) size clears pages one.5)
truncated_is contents now state size keep (Directory uid gid) stale clears was = cut_is contents state size keep (Directory uid gid) stale was

-- ---- by the page where the end lies

module _ (uid gid size old : ℕ) (logged : Bool) (pages : Pages) where
  abbrev cut_pages : Pages
  cut_pages = retain_keys pages (λ p. nat_lt (p * 8192) size)

  abbrev with_last : Option (List ℕ) → Node
  with_last found =
      File uid gid size logged (option_map_or (λ page. insert cut_pages (size / 8192) (overwritten page (size % 8192) (zero_bytes (8192 - size % 8192)))) found cut_pages)

  pub cleared_last : (page : List ℕ) → page_at (cut_to size (File uid gid old logged pages)) (size / 8192) ≡ Some page →
      truncated_node size (File uid gid old logged pages) ≡ with_page (size / 8192) (zeros_behind size (size / 8192) page) (cut_to size (File uid gid old logged pages))
  cleared_last page there =
      ap with_last there
      ∙ (λ i. File uid gid size logged
      (insert cut_pages (size / 8192) (cond (sym (eq-eqb (size / 8192) (size / 8192) refl) i) (overwritten page (size % 8192) (zero_bytes (8192 - size % 8192))) page)))

  pub cleared_none : page_at (cut_to size (File uid gid old logged pages)) (size / 8192) ≡ None → truncated_node size (File uid gid old logged pages) ≡ cut_to size (File uid gid old logged pages)
  cleared_none none = ap with_last none
