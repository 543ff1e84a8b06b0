use Rattle.std.proofs.Common.{◌++◌, slice_index, arith, rules}
use Rattle.std.proofs.lemmas.Grind.{common_steps}
use Rattle.word_forms.specs.Runs.{bytes_text}
use Rattle.word_forms.proofs.RunLemmas.{dotted-step, dotted-start, dotted-end, bytes_text-none}
use Rattle.word_forms.proofs.byte_words.push_bytes.Goals as goal

pub returns-then-is_empty : goal.returns-then-is_empty
returns-then-is_empty c = rw (bytes_text-none c.args.bytes.now (grind (arith, common_steps))) (search rules)

pub loop-rest-init : goal.loop-rest-init
loop-rest-init c =
    dotted-start c.args.out.now.items c.push_run.new.out.items c.args.bytes.now c.split_at.result.1.now
    (record { byte = slice_index c.args.bytes.now 0; count = c.run_len-count.result })
    (grind (arith, common_steps)) (search rules) (rw c.split_at.ensures.back c.run_len-count.ensures.run)

pub loop-rest-preserved : goal.loop-rest-preserved
loop-rest-preserved c =
    dotted-step c.loop-rest.out.items c.push-in-loop-rest.new.self.items c.push_run-in-loop-rest.new.out.items c.loop-rest.rest.now
    c.split_at-in-loop-rest.result.1.now (c.args.out.now.items ++ bytes_text c.args.bytes.now)
    (record { byte = slice_index c.loop-rest.rest.now 0; count = c.run_len-count-in-loop-rest.result })
    c.loop-rest.invariant (search rules) (search rules) (rw c.split_at-in-loop-rest.ensures.back c.run_len-count-in-loop-rest.ensures.run)

pub returns : goal.returns
returns c =
    dotted-end c.loop-rest.out.items c.loop-rest.rest.now (c.args.out.now.items ++ bytes_text c.args.bytes.now)
    (grind (arith, common_steps)) c.loop-rest.invariant
