use Rattle.trace.proofs.Heads.{head_clean, head_fault, nothing_before, second_fault}
use Rattle.trace.proofs.read.after_head.Goals as goal

pub returns-in-Err-clause-fault : goal.returns-in-Err-clause-fault
returns-in-Err-clause-fault c known = head_fault c.args.text.now c.in-Err.kind c.in-Err.ensures.err

pub returns-in-Err-clause-clean : goal.returns-in-Err-clause-clean
returns-in-Err-clause-clean c = nothing_before c.args.text.now

pub returns-in-Err-after_cache-clause-fault : goal.returns-in-Err-after_cache-clause-fault
returns-in-Err-after_cache-clause-fault c known =
    second_fault c.in-Ok.found.0 c.args.text.now c.in-Ok.found.1.now
    c.in-Ok.ensures.ok.ended c.in-Err-after_cache.kind c.in-Err-after_cache.ensures.err known

pub returns-in-Err-after_cache-clause-clean : goal.returns-in-Err-after_cache-clause-clean
returns-in-Err-after_cache-clause-clean c =
    head_clean c.in-Ok.found.0 c.args.text.now c.in-Ok.found.1.now
    c.in-Ok.ensures.ok.ended
