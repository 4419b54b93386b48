-- The names with which a statement begins, in lower case.
use Rattle.std.specs.Prelude.{ℕ, List, [], ◌∷◌, Option, None, Some, option_map, if◌then◌else◌, codes}
use Rattle.std.specs.Str.{bytes_eq}
use Rattle.brd_isa.specs.Names.{named_in, mnemonic_named, ◌or_else◌}
use Rattle.brd_word.specs.declared.order.Order.{Order}
use Rattle.brd_word.specs.declared.order.Order.TheVariants.{Big, Little}
use Rattle.brd_source.specs.declared.statement.Width.TheVariants.{Byte, Half, Word as FourBytes}
use Rattle.brd_source.specs.declared.operations.Shorthand.TheVariants.{Nop, Move, Branch, BranchIfZero}
use Rattle.brd_source.specs.declared.operations.Shorthand.TheVariants.{BranchUnlessZero, BranchAndLink}
use Rattle.brd_source.specs.declared.operations.Directive.TheVariants.{Org, Align, Space, Values, Ascii, Asciiz, Equ}
use Rattle.brd_source.specs.declared.operations.Directive.TheVariants.{Globl, Set, ByteOrder}
use Rattle.brd_source.specs.declared.operations.Operation.{Operation}
use Rattle.brd_source.specs.declared.operations.Operation.TheVariants.{Mnemonic, Shorthand, Directive}

abbrev pub other_names : List (List ℕ × Operation)
other_names =
    (codes "nop", Shorthand Nop) ∷
    (codes "move", Shorthand Move) ∷
    (codes "b", Shorthand Branch) ∷
    (codes "beqz", Shorthand BranchIfZero) ∷
    (codes "bnez", Shorthand BranchUnlessZero) ∷
    (codes "bal", Shorthand BranchAndLink) ∷
    (codes ".word", Directive (Values FourBytes)) ∷
    (codes ".half", Directive (Values Half)) ∷
    (codes ".byte", Directive (Values Byte)) ∷
    (codes ".ascii", Directive Ascii) ∷
    (codes ".asciiz", Directive Asciiz) ∷
    (codes ".space", Directive Space) ∷
    (codes ".align", Directive Align) ∷
    (codes ".org", Directive Org) ∷
    (codes ".equ", Directive Equ) ∷
    (codes ".globl", Directive Globl) ∷
    (codes ".set", Directive Set) ∷
    (codes ".byteorder", Directive ByteOrder) ∷ []

-- a mnemonic, a shorthand or a directive
abbrev pub operation_named : List ℕ → Option Operation
operation_named name = option_map (λ m. Mnemonic m) (mnemonic_named name) or_else named_in other_names name

-- the byte order that stands after .byteorder, in lower case only
unfoldable pub order_named : List ℕ → Option Order
order_named name =
    if bytes_eq name (codes "big") then Some Big
    else (if bytes_eq name (codes "little") then Some Little
    else None)
