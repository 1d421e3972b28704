pub mod MomentTexts
pub mod PortValues
pub mod Small
