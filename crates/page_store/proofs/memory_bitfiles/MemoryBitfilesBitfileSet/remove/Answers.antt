use Rattle.page_store.proofs.FileLemmas.{sound_drop, unused_drop}
use Rattle.page_store.proofs.memory_bitfiles.MemoryBitfilesBitfileSet.remove.Goals as goal

pub invariant_of-self-2 : goal.invariant_of-self-2
invariant_of-self-2 c =
    let was = c.args.self.now in
    record {
      rising = c.take.ensures.rising;
      sound = sound_drop was.files.items _ _ was.sound c.take.ensures.items;
      unused = unused_drop was.next was.files.items _ _ was.unused c.take.ensures.items;
    }
