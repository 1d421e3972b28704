pub use Rattle.message_model.specs.Bodies
pub use Rattle.body_parts.specs.Given
pub use Rattle.message_model.specs.MessageTable
pub use Rattle.message_model.specs.Printed
pub use Rattle.message_model.specs.ShopParts
pub use Rattle.message_model.specs.ShopPrimaries
pub use Rattle.message_model.specs.ShopReplies
pub use Rattle.message_model.specs.ShopSendable
