use Rattle.monitor_plan.proofs.SharedRegs.{tells_shared_regs}
use Rattle.monitor_plan.proofs.laws.tells_shared_regs.Goals as goal

pub returns : goal.returns
returns c = tells_shared_regs
