use Rattle.std.proofs.Common.{◌≡◌, List, ℕ, ◌++◌, ◌∙◌, refl, ap, subst}
use Rattle.std.proofs.lemmas.Result.{on_ok_weaker}
use Rattle.brd_gdb.specs.Output.{Outputs}
use Rattle.brd_gdb.specs.Packets.{framed}
use Rattle.brd_command.specs.Serving.{IsShown}
use Rattle.brd_command.proofs.ServerLemmas.{shows-so}
use Rattle.brd_command.proofs.gdb_server.Server.request.Goals as goal

pub returns : goal.returns
returns g c =
    on_ok_weaker c.put_packet.result (λ added.
    let shown = c.in_ok-put_output.ensures.bytes in
    let reply = framed c.in_ok-answer.answer.reply.items in
    record {
      console = c.in_ok-shown.shown.items;
      reply = c.in_ok-answer.answer.reply.items;
      shown = shown;
      answers = c.in_ok-answer.ensures.answers;
      tells = shows-so c.args.request c.args.self.now.session c.answer.new.self c.in_ok-answer.answer.console.items c.in_ok-shown.shown.items
          c.in_ok-answer.ensures.shows
          (subst (λ (said : List ℕ). IsShown c.args.request said c.in_ok-shown.shown.items) c.deref.ensures.value
          c.in_ok-shown.ensures);
      shows = subst (λ (text : List ℕ). Outputs text shown) c.deref-2.ensures.value c.in_ok-put_output.ensures.show;
      added = subst (λ (payload : List ℕ). c.put_packet.new.out.items ≡ c.put_output.new.out.items ++ framed payload)
          c.deref-3.ensures.value added
          ∙ ap (λ (bytes : List ℕ). bytes ++ reply) c.in_ok-put_output.ensures.added;
      receives = refl;
      acknowledges = refl;
    }) c.put_packet.ensures
