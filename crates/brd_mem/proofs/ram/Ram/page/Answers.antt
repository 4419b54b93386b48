use Rattle.std.proofs.Common.{◌≡◌, ◌+◌, ◌-◌, ◌*◌, take, drop, ap, ◌∙◌, arith}
use Rattle.brd_mem.specs.Memory.{Memory}
use Rattle.brd_mem.specs.Pages.{page_size}
use Rattle.brd_mem.proofs.ram.Ram.page.Goals as goal

pub returns-clause-is : goal.returns-clause-is
returns-clause-is c =
    let long : c.args.number * page_size + page_size - c.args.number * page_size ≡ page_size = omega arith in
    ap (λ n. take n (drop (c.args.number * page_size) c.as_slice-bytes.result.now)) long
    ∙ ap (λ bytes. take page_size (drop (c.args.number * page_size) bytes)) (c.as_slice-bytes.ensures.value ∙ ap (λ (m : Memory). m.bytes) c.self.view_is)
