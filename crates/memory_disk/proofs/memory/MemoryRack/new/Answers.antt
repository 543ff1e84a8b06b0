use Rattle.std.proofs.Common.{◌≡◌, ◌==◌, IsTrue, true, false, [], sym, ◌∙◌, rules}
use Rattle.std.specs.List.{list_any}
use Rattle.memory_disk.specs.Volume.{settled_of, sizes_of}
use Rattle.memory_disk.proofs.Replays.{AreUpTo-none, AreFit-none, past_of-none, take-eight}
use Rattle.memory_disk.proofs.memory.MemoryRack.new.Goals.{then-keep_calls, else-keep_calls}
use Rattle.memory_disk.proofs.memory.MemoryRack.new.Goals as goal

pub invariant_of-result : goal.invariant_of-result
invariant_of-result c =
    let volumes = c.in_ok-volumes.ensures in
    let first = c.in_ok-first.ensures in
    let none : c.new.result.items ≡ [] = c.new.ensures.items in
    let all = c.in_ok-volumes.volumes.items.items in
    let same : IsTrue c.args.keep_calls → sizes_of c.in_ok-first.first.items.items ≡ sizes_of all =
    elim c.if-keep_calls.branch [ then-keep_calls w ↦ λ keeps. first.sizes ∙ (λ i. (w.zeros-is i).now) ∙ sym volumes.sizes | else-keep_calls w ↦ λ keeps. absurd (cc (keeps, w.if-keep_calls.false)) ]
    in
    record {
      numbered = AreUpTo-none 0 c.new.result.items none;
      fit = AreFit-none (sizes_of all) c.new.result.items none;
      same_sizes = same;
      replays = λ keeps. rw none ((λ i. record { contents = (first.moment i).contents; unsynced = λ _ _. false }) ∙ sym volumes.moment);
    }

pub returns : goal.returns
returns c =
    let volumes = c.in_ok-volumes.ensures in
    let sizes = volumes.sizes ∙ take-eight c.args.sizes.now c.min.result c.min.ensures in
    let fails : c.in_ok-to_vec.field-0.items ≡ c.args.fails.now = search rules in
    let past = past_of-none c.args.keep_calls (settled_of c.in_ok-first.first.items.items) c.new.result.items in
    λ i. record {
      calls = 0;
      sizes = sizes i;
      read_faults = volumes.read_faults i;
      write_faults = volumes.write_faults i;
      fails = λ n. list_any (λ call. call == n) (fails i);
      told = true;
      now = volumes.moment i;
      kept = c.args.keep_calls;
      past = past i;
    }
