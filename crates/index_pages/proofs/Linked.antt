-- An index page in which the eight bytes that name the next page are others.
use Rattle.std.proofs.Common.{◌≡◌, ◌∙◌, ℕ, ◌+◌, ◌≤◌, Bool, true, false, cond, nat_eq, Some, None, List, [], ◌∷◌, ◌++◌, length, take, drop, refl, sym, ap, subst, arith, append_assoc, length-append, length-drop, length-take}
use Rattle.std.proofs.lemmas.Bool.{eqb-true}
use Rattle.std.proofs.lemmas.List.{drop-append-le, drop-drop, drop_at, take-append-le, take_all}
use Rattle.file_release.specs.domain_base.Page.{overwritten, zero_bytes, length-zero_bytes}
use Rattle.file_release.specs.domain_base.declared.place.Home.{Home}
use Rattle.file_release.specs.page_store.Bitfiles.{shown_index}
use Rattle.file_release.specs.cell_records.Fields.{number_at}
use Rattle.file_release.proofs.OfCellRecords.Bytes.{little_number-take}
use Rattle.file_release.proofs.OfMetadataCells.Places.{long_still}
use Rattle.file_release.specs.tag_dirs.TagPage.{next_of}
use Rattle.index_pages.specs.Links.{LinksPage}

-- eight zeros name no volume
pub no_volume : number_at 4 0 (0 ∷ 0 ∷ 0 ∷ 0 ∷ 0 ∷ 0 ∷ 0 ∷ 0 ∷ []) ≡ 0
unfolding number_at
no_volume = refl

module _ (page bytes : List ℕ) (len : length bytes ≡ 8) (whole : length page ≡ 8192) where
  abbrev end : List ℕ
  end = overwritten page 8 bytes

  room : 8 + length bytes ≤ length page
  room = omega (arith, whole, len)

  front : length (take 8 page) ≡ 8
  front = omega (arith, length-take 8 page, whole)

  whole_end : length end ≡ 8192
  whole_end = long_still page bytes 8 room ∙ whole

  -- the bytes in front are as they were
  take_end : take 8 end ≡ take 8 page
  take_end = ap (take 8) (append_assoc (take 8 page) bytes (drop (8 + length bytes) page))
      ∙ take-append-le 8 (take 8 page) (bytes ++ drop (8 + length bytes) page) (omega (arith, front))
      ∙ take_all 8 (take 8 page) (omega (arith, front))

  -- and so are those after
  drop_end : drop 16 end ≡ drop 16 page
  drop_end =
      let long : length (take 8 page ++ bytes) ≡ 16 = omega (arith, length-append (take 8 page) bytes, front, len) in
      drop_at (take 8 page ++ bytes) (drop (8 + length bytes) page) 16 long ∙ ap (λ k. drop k page) (ap (λ n. 8 + n) len)

  shown_same : shown_index end ≡ shown_index page
  shown_same = λ i. (take_end i ++ zero_bytes 8) ++ rest i
    where
      end_at : 8 + length (zero_bytes 8) ≡ 16
      end_at = omega (arith, length-zero_bytes 8)

      rest : drop (8 + length (zero_bytes 8)) end ≡ drop (8 + length (zero_bytes 8)) page
      rest = ap (λ k. drop k end) end_at ∙ drop_end ∙ ap (λ k. drop k page) (sym end_at)

  -- the four bytes from a place on are those of the eight
  four_there : (o : ℕ) → o + 4 ≤ 8 → number_at 4 (8 + o) end ≡ number_at 4 o bytes
  unfolding number_at
  four_there o le =
      let rest = drop (8 + length bytes) page in
      little_number-take 4 (drop (8 + o) end) (drop o bytes)
      (ap (take 4) (sym (drop-drop o 8 end)) ∙ ap (λ bs. take 4 (drop o (drop 8 bs))) (append_assoc (take 8 page) bytes rest)
      ∙ ap (λ bs. take 4 (drop o bs)) (drop_at (take 8 page) (bytes ++ rest) 8 front)
      ∙ ap (take 4) (drop-append-le o bytes rest (omega (arith, le, len)))
      ∙ take-append-le 4 (drop o bytes) rest (omega (arith, le, len, length-drop o bytes)))

  vol_there : number_at 4 8 end ≡ number_at 4 0 bytes
  vol_there = four_there 0 (omega arith)

  page_there : number_at 4 12 end ≡ number_at 4 4 bytes
  page_there = four_there 4 (omega arith)

  pub links_none : number_at 4 0 bytes ≡ 0 → LinksPage None page end
  links_none is = record {
    next_is = ap (λ n. cond (nat_eq n 0) None (Some (record { vol = number_at 4 8 end; page = number_at 4 12 end }))) (vol_there ∙ is);
    shown = shown_same;
    good = record { whole = whole_end; next = subst (λ n. n ≤ 8) (sym (vol_there ∙ is)) (omega arith) };
  }

  pub links_some : (home : Home) → number_at 4 0 bytes ≡ home.vol → number_at 4 4 bytes ≡ home.page → 1 ≤ home.vol → home.vol ≤ 8
      → LinksPage (Some home) page end
  links_some home vol number least most = record {
    next_is = next_is (nat_eq (number_at 4 8 end) 0) refl;
    shown = shown_same;
    good = record { whole = whole_end; next = subst (λ n. n ≤ 8) (sym (vol_there ∙ vol)) most };
  }
    where
      some : home.vol ≡ 0 → ⊥
      some is = omega (arith, least, is)

      next_is : (b : Bool) → nat_eq (number_at 4 8 end) 0 ≡ b → next_of end ≡ Some home
      next_is true is = absurd (some (sym (vol_there ∙ vol) ∙ eqb-true (number_at 4 8 end) 0 is))
      next_is false is = ap (λ b. cond b None (Some (record { vol = number_at 4 8 end; page = number_at 4 12 end }))) is
          ∙ (λ i. Some (record { vol = (vol_there ∙ vol) i; page = (page_there ∙ number) i }))
