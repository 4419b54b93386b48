-- What is put at the end of an event is what is told of it.
use Rattle.std.proofs.Common.{◌≡◌, ℕ, Bool, true, false, List, [], ◌++◌, refl, sym, ap, ◌∙◌, subst, append_assoc}
use Rattle.std.proofs.lemmas.Bool.{false≢true}
use Rattle.std.proofs.lemmas.List.{append-nil}
use Rattle.std.specs.Prelude.{Option, Some, None, unwrap_or}
use Rattle.brd_mem.specs.declared.image.Symbol.{Symbol}
use Rattle.brd_happening.specs.declared.instruction.Instruction.{Instruction}
use Rattle.brd_happening.specs.declared.happening.Happening.{Happening}
use Rattle.brd_printer.specs.declared.printer.{Manner.Manner, Printer.Printer}
use Rattle.brd_names.specs.declared.stretch.{Quiet.Quiet, Stretch.Stretch}
use Rattle.brd_listing.specs.Listing.{IsBehind}
use Rattle.brd_listing.specs.Names.{IsPrintable}
use Rattle.brd_printer.specs.Effects.{IsToldOf}
use Rattle.brd_seen.specs.Quiets.{quiet_of, tick_of}
use Rattle.brd_printer.specs.Telling.{Tells, TellsBy, TellsInstruction, TellsLine, TellsOther, TellsNothing}
use Rattle.brd_printer.specs.Telling.{form_of, instruction_in, is_untold, shows, shows_instruction, with_held, held_text, told_text}
use Rattle.brd_printer.specs.Telling.{held_behind, text_behind, held_quiet, text_quiet, held_more, text_more, more_of, stretch_of}

nothing : (p : Printer) → TellsNothing p p []
nothing p = record { same = refl; none = refl }

-- ---- an instruction

pub instruction_hidden : (manner : Manner) (position : ℕ) (told : Happening) (it : Instruction) (ended : List ℕ) (p : Printer) (a : List ℕ)
    → shows_instruction p.options manner.words.now told.cpu it ≡ false → IsBehind (TellsInstruction manner position told it ended p p) a a
instruction_hidden manner position told it ended p a off = record {
  text = [];
  is_it = record { shown = λ is. absurd (false≢true (sym off ∙ is)); hidden = λ is. nothing p };
  behind = sym (append-nil a);
}

pub instruction_line : (manner : Manner) (position : ℕ) (told : Happening) (it : Instruction) (ended : List ℕ) (old new : Printer) (what a b : List ℕ)
    → shows_instruction old.options manner.words.now told.cpu it ≡ true
    → IsToldOf (form_of manner old.options) (unwrap_or told.place 0) it ended what
    → new ≡ with_held old None
    → b ≡ a ++ held_text manner.names.symbols.now old.held ++ told_text manner.names.symbols.now position told what
    → IsBehind (TellsInstruction manner position told it ended old new) a b
instruction_line manner position told it ended old new what a b on is printer line = record {
  text = held_text manner.names.symbols.now old.held ++ told_text manner.names.symbols.now position told what;
  is_it = record {
    shown = λ _. record { what = what; is_told = is; printer = printer; line = refl };
    hidden = λ off. absurd (false≢true (sym off ∙ on));
  };
  behind = line ∙ append_assoc a (held_text manner.names.symbols.now old.held) (told_text manner.names.symbols.now position told what);
}

-- ---- other events

pub quiet_events : (symbols : List Symbol) (position count tick : ℕ) (told : Happening) (concerned : Bool) (kind : Quiet) (old new : Printer) (a b : List ℕ)
    → quiet_of told ≡ Some kind → tick ≡ tick_of told.what → new ≡ with_held old (held_quiet old (stretch_of kind position count tick))
    → b ≡ a ++ text_quiet symbols old (stretch_of kind position count tick)
    → IsBehind (TellsOther (quiet_of told) symbols position count told concerned old new) a b
quiet_events symbols position count tick told concerned kind old new a b is ticks printer line =
    subst (λ (k : Option Quiet). IsBehind (TellsOther k symbols position count told concerned old new) a b) (sym is) (record {
      text = text_quiet symbols old (stretch_of kind position count (tick_of told.what));
      is_it = record {
        printer = printer ∙ ap (λ (t : ℕ). with_held old (held_quiet old (stretch_of kind position count t))) ticks;
        line = refl;
      };
      behind = line ∙ ap (λ (t : ℕ). a ++ text_quiet symbols old (stretch_of kind position count t)) ticks;
    })

pub other_line : (symbols : List Symbol) (position count : ℕ) (told : Happening) (concerned : Bool) (old new : Printer) (a b : List ℕ)
    → quiet_of told ≡ None → IsBehind (TellsLine symbols position count told concerned old new) a b
    → IsBehind (TellsOther (quiet_of told) symbols position count told concerned old new) a b
other_line symbols position count told concerned old new a b is puts =
    subst (λ (k : Option Quiet). IsBehind (TellsOther k symbols position count told concerned old new) a b) (sym is) puts

pub line_and_more : (symbols : List Symbol) (position count : ℕ) (told : Happening) (words : List ℕ) (concerned : Bool)
    (more : Option Stretch) (old middle new : Printer) (a b c : List ℕ) → IsPrintable words → more ≡ more_of told.what position count
    → middle ≡ with_held old (held_behind (shows old.options told.cpu concerned) old.held)
    → b ≡ a ++ text_behind (shows old.options told.cpu concerned) symbols old.held (told_text symbols position told words)
    → new ≡ with_held middle (held_more middle more) → c ≡ b ++ text_more symbols middle more
    → IsBehind (TellsLine symbols position count told concerned old new) a c
line_and_more symbols position count told words concerned more old middle new a b c plain is after line printer text =
    let one = text_behind (shows old.options told.cpu concerned) symbols old.held (told_text symbols position told words) in
    let other = text_more symbols middle (more_of told.what position count) in
    record {
      text = one ++ other;
      is_it = record {
        words = words;
        is_one_line = plain;
        middle = middle;
        after_line = after;
        printer = printer ∙ ap (λ (m : Option Stretch). with_held middle (held_more middle m)) is;
        line = refl;
      };
      behind = text ∙ ap (λ (m : Option Stretch). b ++ text_more symbols middle m) is ∙ ap (λ (them : List ℕ). them ++ other) line
          ∙ append_assoc a one other;
    }

-- ---- any event

module _ (manner : Manner) (position count : ℕ) (told : Happening) (ended : List ℕ) (concerned : Bool) (old new : Printer) (a b : List ℕ) where
  pub an_instruction : (it : Instruction) → instruction_in told.what ≡ Some it
      → IsBehind (TellsInstruction manner position told it ended old new) a b → IsBehind (Tells manner position count told ended concerned old new) a b
  an_instruction it is puts =
      subst (λ (o : Option Instruction). IsBehind (TellsBy o (is_untold told.what) (quiet_of told) manner position count told ended concerned old new) a b)
      (sym is) puts

  pub another : instruction_in told.what ≡ None → is_untold told.what ≡ false
      → IsBehind (TellsOther (quiet_of told) manner.names.symbols.now position count told concerned old new) a b
      → IsBehind (Tells manner position count told ended concerned old new) a b
  another is_none is_told puts =
      subst (λ (o : Option Instruction). IsBehind (TellsBy o (is_untold told.what) (quiet_of told) manner position count told ended concerned old new) a b)
      (sym is_none)
      (subst (λ (u : Bool). IsBehind (TellsBy None u (quiet_of told) manner position count told ended concerned old new) a b) (sym is_told) puts)

pub untold : (manner : Manner) (position count : ℕ) (told : Happening) (ended : List ℕ) (concerned : Bool) (p : Printer) (a : List ℕ) → instruction_in told.what ≡ None
    → is_untold told.what ≡ true → IsBehind (Tells manner position count told ended concerned p p) a a
untold manner position count told ended concerned p a is_none is_untold_ =
    subst (λ (o : Option Instruction). IsBehind (TellsBy o (is_untold told.what) (quiet_of told) manner position count told ended concerned p p) a a)
    (sym is_none)
    (subst (λ (u : Bool). IsBehind (TellsBy None u (quiet_of told) manner position count told ended concerned p p) a a) (sym is_untold_)
    (record { text = []; is_it = nothing p; behind = sym (append-nil a) }))
