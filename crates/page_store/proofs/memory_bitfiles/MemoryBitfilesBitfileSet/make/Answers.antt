use Rattle.std.proofs.Common.{◌≡◌, ◌<◌, ◌+◌, ◌*◌, ◌^◌, subst, sym, arith}
use Rattle.std.proofs.lemmas.Grind.{common_steps}
use Rattle.page_store.specs.Tags.{AreSound, AreUnused}
use Rattle.page_store.proofs.FileLemmas.{sound_set, unused_set}
use Rattle.page_store.proofs.memory_bitfiles.MemoryBitfilesBitfileSet.make.Goals as goal

pub invariant_of-self-in-Break-branch-3 : goal.invariant_of-self-in-Break-branch-3
invariant_of-self-in-Break-branch-3 c =
    let was = c.args.self.now in
    record {
      rising = c.put.ensures.rising;
      sound = subst AreSound (sym c.in_err-put.ensures.err) was.sound;
      unused = subst (AreUnused was.next) (sym c.in_err-put.ensures.err) was.unused;
    }

pub invariant_of-self-2 : goal.invariant_of-self-2
invariant_of-self-2 c =
    let was = c.args.self.now in
    let next : was.next + 1 ≡ c.in_ok-next.next = grind (arith, common_steps) in
    let below : c.key_of.result < (was.next + 1) * 2 ^ 16 = omega (arith, c.key_of.ensures.value) in
    record {
      rising = c.put.ensures.rising;
      sound = sound_set was.files.items _ _ c.new.result was.sound c.in_ok-put.ensures.ok c.new.ensures.sound;
      unused = subst (λ n. AreUnused n c.put.new.entries.items) next (unused_set was.next was.files.items _ _ c.new.result was.unused c.in_ok-put.ensures.ok below);
    }
