use Rattle.std.proofs.Common.{◌≡◌, ℕ, ◌+◌, ◌*◌, ◌<◌, length, nat_eq, nat_le, arith, sym, ap, ◌∙◌, subst}
use Rattle.std.proofs.lemmas.List.{length_push}
use Rattle.std.specs.Int.{bit_at}
use Rattle.std.specs.Ordering.{nat_cmp}
use Rattle.std.specs.FinSet.{FinSet}
use Rattle.free_space.specs.VolumePages.{VolumePages}
use Rattle.free_space.specs.Bits.{bitmap_bytes}
use Rattle.free_space.proofs.Blank.{IsBlank, blank_more, used-blank, kept-blank}
use Rattle.free_space.proofs.bitmap.Bitmap.new.Goals as goal

pub loop-k-preserved : goal.loop-k-preserved
loop-k-preserved c =
    let size : length c.loop-k.bytes.items ≡ c.loop-k.k = c.loop-k.invariant.1 in
    let last : (i : ℕ) → i < 8 → nat_eq (bit_at c.blank_byte.result i) 1 ≡ nat_le c.args.pages (8 * length c.loop-k.bytes.items + i) =
    λ i low. c.blank_byte.ensures i low ∙ ap (λ k. nat_le c.args.pages (8 * k + i)) (sym size) in (
      subst (λ bytes. IsBlank bytes c.args.pages) (sym c.in_ok-push.ensures.items)
          (blank_more c.loop-k.bytes.items c.args.pages c.blank_byte.result c.loop-k.invariant.0 last),
      ap length c.in_ok-push.ensures.items ∙ length_push c.loop-k.bytes.items c.blank_byte.result ∙ ap (λ n. n + 1) size,
    )

full_size : (c : goal.After-loop-k) → length c.loop-k.bytes.items ≡ bitmap_bytes c.args.pages
full_size c = c.loop-k.invariant.1 ∙ (let end : c.loop-k.k ≡ c.bitmap_len-len.result = omega arith in end) ∙ c.bitmap_len-len.ensures.value

pub invariant_of-result : goal.invariant_of-result
invariant_of-result c = kept-blank c.loop-k.bytes.items c.args.pages c.loop-k.invariant.0 (full_size c)

pub returns : goal.returns
returns c =
    let at : FinSet nat_cmp → VolumePages = λ s. record { pages = c.args.pages; used = s } in
    ap at (used-blank c.loop-k.bytes.items c.args.pages c.loop-k.invariant.0 (full_size c))
