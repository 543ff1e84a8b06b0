use Rattle.std.proofs.Common.{◌≡◌, ℕ, ◌/◌, ◌%◌, ◌^◌, ◌<◌, List, get_or, nat_eq, bit_and, sym, ap, ◌∙◌, subst}
use Rattle.std.proofs.lemmas.List.{get_or_read}
use Rattle.std.proofs.lemmas.Nat.Bits.{shr_and_one}
use Rattle.std.specs.Int.{bit_at}
use Rattle.std.specs.FinSet.{contains}
use Rattle.free_space.specs.VolumePages.{VolumePages}
use Rattle.free_space.specs.Bits.{is_set}
use Rattle.free_space.proofs.Used.{contains-used, place_within}
use Rattle.free_space.proofs.bitmap.Bitmap.is_used.Goals as goal

-- the bit that the code tests
tested : (bytes : List ℕ) (p byte : ℕ) → byte ≡ get_or bytes (p / 8) 0 → nat_eq (bit_and (byte / 2 ^ (p % 8)) 1) 1 ≡ is_set bytes p
unfolding is_set
tested bytes p byte read = ap (λ n. nat_eq n 1) (shr_and_one byte (p % 8)) ∙ ap (λ b. nat_eq (bit_at b (p % 8)) 1) read

pub returns : goal.returns
returns c =
    let within : c.args.page < c.self.inside.pages = subst (λ (m : VolumePages). c.args.page < m.pages) (sym c.self.view_is) c.requires in
    let place = place_within c.self.inside.bytes.items c.self.inside.pages c.self.inside.free c.args.page c.self.invariant within in
    tested c.self.inside.bytes.items c.args.page c.index.result.now (get_or_read _ _ _ place c.index.ensures 0)
    ∙ sym (contains-used c.self.inside.bytes.items c.self.inside.pages c.args.page within)
    ∙ ap (λ (m : VolumePages). contains m.used c.args.page) c.self.view_is
