-- What clauses see of the layout of the code.
use Rattle.brd_asm.specs.declared.layout.Layout as layouts
use Rattle.brd_asm.specs.Layout.{Layout}

abbrev pub layout : layouts.Layout → Layout
layout l = record { order = l.order; place = l.place; names = l.names; pieces = l.pieces }
