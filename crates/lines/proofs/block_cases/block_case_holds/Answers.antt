use Rattle.lines.proofs.Answers.{step_decided}
use Rattle.blocks.specs.RoomsLemmas.{same_blocks}
use Rattle.lines.proofs.block_cases.block_case_holds.Goals as goal

pub returns-clause-value : goal.returns-clause-value
returns-clause-value g c =
    let case = c.args.case.now in
    step_decided (g.F.Field.meaning c.args.field.now) case.modulus c.in_ok-modulus.modulus case.step case.block c.in_ok-block.block case.result c.eq.result
    c.in_ok-modulus.ensures c.in_ok-block.ensures.value (same_blocks c.in_ok-block.block case.result c.eq.result c.eq.ensures)
