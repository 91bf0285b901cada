use Rattle.std.proofs.Common.{refl}
use Rattle.dc_core.specs.Event.{Create}
use Rattle.dc_core.specs.Choices.{◌>>=◌, give, tell, draw, draw_bytes}
use Rattle.dc_core.specs.Entry.{live_object}
use Rattle.dc_memory.specs.Objects.{holding}
use Rattle.dc_world.specs.View.{kind_view, object_view}
use Rattle.dc_world.proofs.Drawing.{resumed_none, resumed_told, resumed_more, resumed_done, resumed_dry, resumed_cut, drawing_cut}
use Rattle.dc_world.proofs.entry.live_object.Goals as goal

pub returns-in_err-size : goal.returns-in_err-size
returns-in_err-size g c =
    drawing_cut object_view (live_object c.args.number (kind_view c.args.storage)) c.from_residual.result _ _ _ _ c.from_residual.ensures.0
    (resumed_cut (live_object c.args.number (kind_view c.args.storage)) (live_object c.args.number (kind_view c.args.storage)) (draw 16777217) (λ size. tell (Create c.args.number) (draw_bytes size >>= λ bytes. give (holding (kind_view c.args.storage) bytes))) _ _ _ _ _ _ (resumed_none (live_object c.args.number (kind_view c.args.storage)) _ _) (λ choices. refl) c.in_err-size.ensures.drawn)

pub returns-in_err-bytes : goal.returns-in_err-bytes
returns-in_err-bytes g c =
    drawing_cut object_view (live_object c.args.number (kind_view c.args.storage)) c.from_residual-in_err-bytes.result _ _ _ _ c.from_residual-in_err-bytes.ensures.0
    (resumed_cut (live_object c.args.number (kind_view c.args.storage)) (draw_bytes c.in-Some.size >>= λ bytes. give (holding (kind_view c.args.storage) bytes)) (draw_bytes c.in-Some.size) (λ bytes. give (holding (kind_view c.args.storage) bytes)) _ _ _ _ _ _ (resumed_told (live_object c.args.number (kind_view c.args.storage)) (tell (Create c.args.number) (draw_bytes c.in-Some.size >>= λ bytes. give (holding (kind_view c.args.storage) bytes))) (draw_bytes c.in-Some.size >>= λ bytes. give (holding (kind_view c.args.storage) bytes)) (Create c.args.number) _ _ _ _ _ (resumed_more (live_object c.args.number (kind_view c.args.storage)) (live_object c.args.number (kind_view c.args.storage)) (draw 16777217) (λ size. tell (Create c.args.number) (draw_bytes size >>= λ bytes. give (holding (kind_view c.args.storage) bytes))) c.in-Some.size _ _ _ _ _ _ (resumed_none (live_object c.args.number (kind_view c.args.storage)) _ _) (λ choices. refl) (rw c.in-Some.is at c.in_ok-size.ensures.drawn)) (λ choices. refl) c.tell.ensures) (λ choices. refl) c.in_err-bytes.ensures)

pub returns-in_default-2 : goal.returns-in_default-2
returns-in_default-2 g c =
    resumed_dry (live_object c.args.number (kind_view c.args.storage)) (draw_bytes c.in-Some.size >>= λ bytes. give (holding (kind_view c.args.storage) bytes)) (draw_bytes c.in-Some.size) (λ bytes. give (holding (kind_view c.args.storage) bytes)) _ _ _ _ _ _ (resumed_told (live_object c.args.number (kind_view c.args.storage)) (tell (Create c.args.number) (draw_bytes c.in-Some.size >>= λ bytes. give (holding (kind_view c.args.storage) bytes))) (draw_bytes c.in-Some.size >>= λ bytes. give (holding (kind_view c.args.storage) bytes)) (Create c.args.number) _ _ _ _ _ (resumed_more (live_object c.args.number (kind_view c.args.storage)) (live_object c.args.number (kind_view c.args.storage)) (draw 16777217) (λ size. tell (Create c.args.number) (draw_bytes size >>= λ bytes. give (holding (kind_view c.args.storage) bytes))) c.in-Some.size _ _ _ _ _ _ (resumed_none (live_object c.args.number (kind_view c.args.storage)) _ _) (λ choices. refl) (rw c.in-Some.is at c.in_ok-size.ensures.drawn)) (λ choices. refl) c.tell.ensures) (λ choices. refl) (rw c.in_default-2.is at c.in_ok-bytes.ensures)

pub returns : goal.returns
returns g c =
    (resumed_done (live_object c.args.number (kind_view c.args.storage)) (give (holding (kind_view c.args.storage) c.in-Some-2.bytes.items)) (holding (kind_view c.args.storage) c.in-Some-2.bytes.items) _ _ _ _
    (resumed_more (live_object c.args.number (kind_view c.args.storage)) (draw_bytes c.in-Some.size >>= λ bytes. give (holding (kind_view c.args.storage) bytes)) (draw_bytes c.in-Some.size) (λ bytes. give (holding (kind_view c.args.storage) bytes)) c.in-Some-2.bytes.items _ _ _ _ _ _ (resumed_told (live_object c.args.number (kind_view c.args.storage)) (tell (Create c.args.number) (draw_bytes c.in-Some.size >>= λ bytes. give (holding (kind_view c.args.storage) bytes))) (draw_bytes c.in-Some.size >>= λ bytes. give (holding (kind_view c.args.storage) bytes)) (Create c.args.number) _ _ _ _ _ (resumed_more (live_object c.args.number (kind_view c.args.storage)) (live_object c.args.number (kind_view c.args.storage)) (draw 16777217) (λ size. tell (Create c.args.number) (draw_bytes size >>= λ bytes. give (holding (kind_view c.args.storage) bytes))) c.in-Some.size _ _ _ _ _ _ (resumed_none (live_object c.args.number (kind_view c.args.storage)) _ _) (λ choices. refl) (rw c.in-Some.is at c.in_ok-size.ensures.drawn)) (λ choices. refl) c.tell.ensures) (λ choices. refl) (rw c.in-Some-2.is at c.in_ok-bytes.ensures))
    (λ choices. refl))
