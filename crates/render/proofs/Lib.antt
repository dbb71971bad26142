-- Lemmas by topic: Things on what is told, Envs on the environment, Steps on what good code says step by step, Rooms on what is put into a room, Whole on saying all of it.
pub mod Things
pub mod Envs
pub mod Steps
pub mod Rooms
pub mod Whole
