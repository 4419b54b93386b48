-- What is written is read again.
use Rattle.std.proofs.Common.{◌≡◌, ℕ, List, Result, Ok, Err, ap, ◌∙◌}
use Rattle.std.specs.Prelude.{IfOk}
use Rattle.std.specs.Global.{Vec}
use Rattle.brd_mem.specs.Image.{IsPlain}
use Rattle.brd_base.specs.declared.no_memory.NoMemory.{NoMemory}
use Rattle.brd_mem.specs.declared.image.Image.{Image}
use Rattle.brd_elf.specs.File.{file, Fits, HasWords}
use Rattle.brd_elf.specs.Meaning.{meaning}
use Rattle.brd_elf.proofs.FileAgain.{read_again}

pub written_again : (image : Image) (result : Result (Vec ℕ) NoMemory) → IsPlain image → IfOk result (λ bytes. bytes.items ≡ file image) → IfOk result (λ _. HasWords image)
    → IfOk result (λ bytes. Fits image → meaning bytes.items ≡ Ok image)
written_again image (Ok bytes) plain is words = λ fits. ap (λ (list : List ℕ). meaning list) is ∙ read_again image plain words fits
written_again image (Err refused) plain is words = tt
