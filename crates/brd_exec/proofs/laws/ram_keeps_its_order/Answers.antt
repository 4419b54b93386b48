use Rattle.brd_exec.proofs.FormLemmas.{form-ran}
use Rattle.brd_exec.proofs.laws.ram_keeps_its_order.Goals as goal

pub returns : goal.returns
returns c = λ cpu s memory links. (form-ran cpu s memory links).1
