pub mod Sixty_four
pub mod Listed
pub mod Moves
pub mod Padded
pub mod Steps
