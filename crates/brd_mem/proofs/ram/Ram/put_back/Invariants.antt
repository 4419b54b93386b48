-- The pages that are left, put into what is here, make what all of them make of the base.
use Rattle.std.proofs.Common.{◌≡◌, drop}
use Rattle.brd_mem.specs.Memory.{size_of}
use Rattle.brd_mem.specs.Pages.{with_pages, LieWithin}
use Rattle.brd_mem.proofs.ram.Ram.put_back.Given as goal

abbrev pub invariant-loop-shared : goal.invariant-loop-shared
invariant-loop-shared l = record {
  is : with_pages l.self (drop l.shared-index l.shared-items) ≡ with_pages l.base l.pages;
  order : l.self.order ≡ l.base.order;
  size : size_of l.self ≡ size_of l.base;
  within : LieWithin (size_of l.base) (drop l.shared-index l.shared-items);
}
