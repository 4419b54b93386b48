use Rattle.std.proofs.Common.{◌≡◌, ◌+◌, ◌≤◌, length}
use Rattle.brd_text.specs.Lines.{lines_of}
use Rattle.brd_asm.specs.Layout.{all_placed, nothing}
use Rattle.brd_asm.specs.LayoutView.{layout}
use Rattle.brd_asm.proofs.text.place_all.Given as goal

-- to place the lines that are left, after those so far, is to place all
abbrev pub invariant-lines : goal.invariant-lines
invariant-lines l = record {
  same : all_placed l.line (lines_of l.rest) (layout l.placed) ≡ all_placed 1 (lines_of l.fn.text) nothing;
  room : l.line + length l.rest ≤ 1 + length l.fn.text;
}

abbrev pub decreases-lines : goal.decreases-lines
decreases-lines l = length l.rest
